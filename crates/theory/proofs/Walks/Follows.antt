-- A hand can follow our walk: picks that play its moves, at the place of the path that it walks, leave a row with our walk's verdict.
use Prim.Native.Nat.{ℕ, suc}
use mathlib.Core.Path.{◌≡◌, refl, sym, ap, ◌∙◌, subst}
use mathlib.Core.Bool.{true, cond}
use mathlib.Core.List.Memᴰ
use mathlib.Core.List.{List, [], ◌∷◌, ◌++◌, map, append_assoc, append-nil, Memᴰ}
use mathlib.Core.Option.{none, some, Option-elim}
use lib.ListN.{length}
use Rattle.logic.specs.Search.{◌and◌, all, any, is_some}
use Rattle.logic.specs.Query.{Query, is_order, term_count}
use Rattle.logic.specs.Facts.{Facts, Line, join_lines, start_joins, start, clash}
use Rattle.logic.specs.Rules.{Rule, rules, Move, move, applies, branch, add, branches, choose, move_number, move_line}
use Rattle.logic.specs.Walk.{order_of, Ending, refutation, saturation, after, our_walk, refuted, satisfiable, our_verdict, Pick, is_clashed, picked, splice, pick_each, hand_row, is_saturated, hand_verdict}
use Rattle.logic.specs.OurWalk.{Walks, clashes, saturates, goes_on, all_tried, refuted_first, saturated_first}
use Rattle.theory.proofs.Basics.Search.{not_of, true-false, all_true, all_append, any_intro}
use Rattle.theory.proofs.Basics.Compare.{cond-true, cond-false}
use Rattle.theory.proofs.Query.Tied.{Accepted}
use Rattle.theory.proofs.Walks.Order.{move_of_number, order_full, choose_nothing}
use Rattle.theory.proofs.Paths.Applies.{has_link_range, applies_linked}
use Rattle.theory.proofs.Walks.Derives.{seen-clashing, seen-applying}
use Rattle.theory.proofs.Walks.Limit.{walked, our_walks, our_headed, our_saturation}

-- lines in front of an ending leave its verdict
headed_verdict : (ls : List Line) (e : Ending) → our_verdict (after ls e) ≡ our_verdict e
unfolding our_verdict after
headed_verdict ls (refutation ms) = refl
headed_verdict ls (saturation s) = refl

-- Picks in a row

-- f of the path behind those to its left
splice_at : (f : Facts → List Facts) (left : List Facts) (s : Facts) (right : List Facts) → splice f (suc (length left)) (left ++ (s ∷ right)) ≡ left ++ (f s ++ right)
unfolding splice
splice_at f [] s right = refl
splice_at f (x ∷ left) s right = ap (λ (row : List Facts). x ∷ row) (splice_at f left s right)

module _ (q : Query) where
  -- picks after others
  pick_each-append : (ps ps' : List Pick) (row : List Facts) → pick_each q (ps ++ ps') row ≡ pick_each q ps' (pick_each q ps row)
  unfolding pick_each
  pick_each-append [] ps' row = refl
  pick_each-append (p ∷ ps) ps' row = pick_each-append ps ps' (splice (picked q p) p.position row)

  -- the pick of a move at a position
  pick_of : ℕ → Move → Pick
  pick_of p (move i r t) = record { position = p; rule = move_number i r; at_triple = t }

  -- a path without a clash gives way to the branches of a move that applies to it
  pick_move : (i : ℕ) (s : Facts) (m : Move) → clash q s ≡ none → applies (term_count q) s m ≡ true → picked q (pick_of i m) s ≡ branches (term_count q) s m
  unfolding picked pick_of Option-elim is_clashed is_some ◌and◌
  pick_move p s (move i r t) free app =
      rw (move_of_number s.links i r t (has_link_range s.links i r t (applies_linked (term_count q) s (move i r t) app)), free, app) refl

  pick_at : (left : List Facts) (s : Facts) (right : List Facts) (m : Move) → clash q s ≡ none → applies (term_count q) s m ≡ true →
      pick_each q (pick_of (suc (length left)) m ∷ []) (left ++ (s ∷ right)) ≡ left ++ (branches (term_count q) s m ++ right)
  unfolding pick_each pick_of
  pick_at left s right (move i r t) free app =
      let p = pick_of (suc (length left)) (move i r t) in
      splice_at (picked q p) left s right ∙ ap (λ (row : List Facts). left ++ (row ++ right)) (pick_move (suc (length left)) s (move i r t) free app)

  -- What following comes to

  -- the paths `middle` of a row are walked to an ending: picks leave only clashed paths in their place, or the path that is saturated
  Followed : List Facts → List Facts → List Facts → Ending → Type 0
  Followed left middle right (refutation ls) =
      (picks : List Pick) × (clashed : List Facts) × (all (is_clashed q) clashed ≡ true) × (pick_each q picks (left ++ (middle ++ right)) ≡ left ++ (clashed ++ right))
  Followed left middle right (saturation t) = (picks : List Pick) × Memᴰ t (pick_each q picks (left ++ (middle ++ right)))

  -- picks that change the middle first, and then what follows the changed one
  followed_after : (picks : List Pick) (left middle middle' right : List Facts) →
      pick_each q picks (left ++ (middle ++ right)) ≡ left ++ (middle' ++ right) → (ls : List Line) (e : Ending) → Followed left middle' right e →
      Followed left middle right (after ls e)
  unfolding Followed after
  followed_after picks left middle middle' right h ls (refutation ms) f =
      (picks ++ f.0, f.1, f.2, pick_each-append picks f.0 (left ++ (middle ++ right)) ∙ ap (pick_each q f.0) h ∙ f.3)
  followed_after picks left middle middle' right h ls (saturation t) f =
      (picks ++ f.0, subst (λ (row : List Facts). Memᴰ t row) (sym (pick_each-append picks f.0 (left ++ (middle ++ right)) ∙ ap (pick_each q f.0) h)) f.1)

  -- clashed paths to the left of the middle are clashed paths in its place
  behind : (left clashed : List Facts) → all (is_clashed q) clashed ≡ true → (middle right : List Facts) (e : Ending) →
      Followed (left ++ clashed) middle right e → Followed left (clashed ++ middle) right e
  unfolding Followed
  behind left clashed cl middle right (refutation ls) f =
      (f.0, clashed ++ f.1, all_append (is_clashed q) clashed f.1 cl f.2, ap (pick_each q f.0) (nested middle) ∙ f.3 ∙ sym (nested f.1))
    where
      nested : (m : List Facts) → left ++ ((clashed ++ m) ++ right) ≡ (left ++ clashed) ++ (m ++ right)
      nested m = simp append_assoc
  behind left clashed cl middle right (saturation t) f = (f.0, subst (λ (row : List Facts). Memᴰ t (pick_each q f.0 row)) (simp append_assoc) f.1)

  -- a path that is refuted, and then those to its right
  followed_then : (left : List Facts) (s : Facts) (ss right : List Facts) (ls ms : List Line) (e : Ending) →
      ((right' : List Facts) → Followed left (s ∷ []) right' (refutation ls)) → ((left' : List Facts) → Followed left' ss right e) →
      Followed left (s ∷ ss) right (after ms e)
  unfolding Followed
  followed_then left s ss right ls ms e f g =
      let (picks, clashed, cl, row) = f (ss ++ right) in
      followed_after picks left (s ∷ ss) (clashed ++ ss) right (row ∙ ap (λ (r : List Facts). left ++ r) (sym (append_assoc clashed ss right))) ms e
      (behind left clashed cl ss right e (g (left ++ clashed)))

  -- each way in which a walk ends, or goes on
  followed_clash : (s : Facts) (l : Line) → clash q s ≡ some l → (left right : List Facts) → Followed left (s ∷ []) right (refutation (l ∷ []))
  unfolding Followed all pick_each is_clashed is_some ◌and◌
  followed_clash s l e left right = ([], s ∷ [], rw e refl, refl)

  followed_saturated : (s : Facts) (left right : List Facts) → Followed left (s ∷ []) right (saturation s)
  unfolding Followed pick_each
  followed_saturated s left right = ([], Memᴰ.append_right left (Memᴰ.head refl))

  followed-none : (left right : List Facts) → Followed left [] right (refutation [])
  unfolding Followed all pick_each
  followed-none left right = ([], [], refl, refl)

  followed_first : (s : Facts) (ss : List Facts) (t : Facts) → ((left right : List Facts) → Followed left (s ∷ []) right (saturation t)) →
      (left right : List Facts) → Followed left (s ∷ ss) right (saturation t)
  unfolding Followed
  followed_first s ss t f left right = f left (ss ++ right)

  followed_walk : (order : List Rule) {s : Facts} {e : Ending} → Walks q order s e → (left right : List Facts) → Followed left (s ∷ []) right e
  unfolding branches
  followed_walk order r =
      elim r as (λ s e r. (left right : List Facts) → Followed left (s ∷ []) right e) (λ s cs e r. (left right : List Facts) → Followed left (map (add (term_count q) s) cs) right e) [
        | clashes {s = s} l h ↦ followed_clash s l (seen-clashing q order s h)
        | saturates {s = s} h ↦ followed_saturated s
        | goes_on {s = s} m {e = d} h (rs → below) ↦ λ left right.
            let (free, app) = seen-applying q order s h in
            followed_after (pick_of (suc (length left)) m ∷ []) left (s ∷ []) (branches (term_count q) s m) right (pick_at left s right m free app) (move_line m ∷ []) d (below left right)
        | all_tried ↦ followed-none
        | refuted_first {s = s} {c = c} {cs = cs} {ls = ls} {e = d} (r → first) (rs → rest) ↦ λ left right.
            followed_then left (add (term_count q) s c) (map (add (term_count q) s) cs) right ls (join_lines (branch (term_count q) s c).pairs ++ ls) d (first left) (λ left'. rest left' right)
        | saturated_first {s = s} {c = c} {cs = cs} {t = t} (r → first) ↦ followed_first (add (term_count q) s c) (map (add (term_count q) s) cs) t first
      ]

  -- What the hand's verdict then is

  refuted-row : (row : List Facts) → all (is_clashed q) row ≡ true → hand_verdict q row ≡ some refuted
  unfolding hand_verdict
  refuted-row row h = cond-true (some refuted) (cond (any (is_saturated q) row) (some satisfiable) none) h

  satisfiable-row : (row : List Facts) (t : Facts) → Memᴰ t row → clash q t ≡ none → choose (term_count q) rules t ≡ none → hand_verdict q row ≡ some satisfiable
  unfolding hand_verdict is_clashed is_saturated is_some ◌and◌
  satisfiable-row row t m free e =
      cond-false (some refuted) (cond (any (is_saturated q) row) (some satisfiable) none) (not_of (λ h. true-false (all_true (is_clashed q) t h m) (rw free refl)))
      ∙ cond-true (some satisfiable) none (any_intro (is_saturated q) t m (rw (free, e) refl))

  -- so for every list of every rule there are picks after which the hand's verdict is our walk's
  followed_verdict : Accepted q → (order : List ℕ) → is_order order ≡ true → (e : Ending) → walked order q ≡ e → Followed [] (start q ∷ []) [] e →
      (picks : List Pick) × (hand_verdict q (hand_row q picks) ≡ some (our_verdict e))
  unfolding Followed our_verdict hand_row after
  followed_verdict ok order o (refutation ls) h (picks, clashed, cl, row) =
      (picks, refuted-row (pick_each q picks (start q ∷ [])) (subst (λ (r : List Facts). all (is_clashed q) r ≡ true) (sym (row ∙ append-nil clashed)) cl))
  followed_verdict ok order o (saturation t) h (picks, m) =
      let e = our_saturation q ok (λ s. Facts) (λ s s' m p c a k. s) order t (start q) (our_headed q order ∙ ap (after (join_lines (start_joins q).pairs)) h) in
      (picks, satisfiable-row (pick_each q picks (start q ∷ [])) t m e.1 (choose_nothing (term_count q) t (order_of order) rules (order_full order o) e.2))

  pub hand_follows : Accepted q → (order : List ℕ) → is_order order ≡ true → (picks : List Pick) × (hand_verdict q (hand_row q picks) ≡ some (our_verdict (our_walk order q)))
  hand_follows ok order o =
      let (picks, h) = followed_verdict ok order o (walked order q) refl (followed_walk (order_of order) (our_walks q ok order) [] []) in
      (picks, h ∙ ap some (sym (ap our_verdict (our_headed q order) ∙ headed_verdict (join_lines (start_joins q).pairs) (walked order q))))
