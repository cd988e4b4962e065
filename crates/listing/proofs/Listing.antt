-- What each return of the listing says.
use Prim.Native.Nat.{ℕ, ◌+◌, ◌-◌, ◌≤◌, ◌<◌}
use native.Mathlib.Omega.{arith}
use mathlib.Core.Path.{◌≡◌, refl, sym, ap, ◌∙◌, subst}
use mathlib.Core.Logic.{◌⊎◌, inl, inr}
use mathlib.Core.List.{List, [], ◌∷◌, ◌++◌}
use lib.ListN.{length, get_or, drop}
use Rattle.logic.specs.Query.{Query, term_count}
use Rattle.logic.specs.Facts.{Facts, Joined, Line, line, join_lines}
use Rattle.logic.specs.Rules.{Rule, triple, Move, move, Fact, equal, move_number, move_line, alternatives, branch}
use Rattle.logic.specs.Walk.{clashing, applying, saturated, look, Ending, refutation, saturation, after, walk_branch, walk_each, walk}
use Rattle.alternatives.specs.Alternatives.{count_of, alternative_at}
use Rattle.alternatives.proofs.Alternatives.{count_is}
use Rattle.branch.proofs.Steps.{branch_fits}
use Rattle.joins.specs.Pairs.{Fits}
use Rattle.walk.specs.Lines.{counted, count_all, put_line, put_all}
use Rattle.walk.proofs.Lines.{put_line-length', put_all-length', count_all_bound, count_all_grows, count_all-append, put_all-append}
use Rattle.walk.proofs.Walks.{walk-clashing, walk-saturated, walk-applying, after-after, each_refuted, each_saturated}
use Rattle.walk.proofs.Turns.{Turn, turn_first, turn_whole}
use Rattle.walk.proofs.Steps.{branch_walked, move-line}
use Rattle.listing.specs.Lists.{Lists}
use Rattle.std.specs.Prelude.{Option, Some, None, IfSome, IfNone}

-- lines that are written keep the length of the buffer
pub put_line-length : (xs ys : List ℕ) (c : ℕ) (l : Line) → xs ≡ put_line ys c l → length xs ≡ length ys
put_line-length xs ys c l e = ap length e ∙ put_line-length' ys c l

-- the array has room for the pairs of a branch
pub made_fits : (n : ℕ) (s : Facts) (f : Fact) (j : Joined) → j ≡ branch n s f → n ≤ 16 → Fits j
made_fits n s f j e l = subst Fits (sym e) (branch_fits n s f l)

-- endings differ, and a refutation has one list of lines
open_refuted : (s : Facts) (ls : List Line) → saturation s ≡ refutation ls → ⊥
open_refuted s ls e = let z : ◌≡◌ {A = ℕ} 0 1 = cc in absurd (omega arith)

same_lines : (ls ms : List Line) → refutation ls ≡ refutation ms → ls ≡ ms
same_lines ls ms e = cc

-- lines in front of a refutation are lines of it
more_of : (xs : List Line) (e : Ending) (ls : List Line) (c most : ℕ) → after xs e ≡ refutation ls → most < count_all c xs → most < count_all c ls
unfolding after
more_of xs (refutation ms) ls c most h l =
    subst (λ (ys : List Line). most < count_all c ys) (same_lines (xs ++ ms) ls h) (omega (arith, count_all-append c xs ms, count_all_grows (count_all c xs) ms))
more_of xs (saturation s) ls c most h l = absurd (open_refuted s ls h)

-- where the walk is not refuted nothing is asked for but the length
lists_open : (r : Option ℕ) (e : Ending) (s : Facts) (before : List ℕ) (c most : ℕ) (bytes : List ℕ) → e ≡ saturation s → length bytes ≡ length before → IfSome r (λ k. k ≤ 16001) → Lists r e before c most bytes
lists_open r e s before c most bytes h l b =
    record { same_length = l; bounded = b; whole = λ ls g. absurd (open_refuted s ls (sym h ∙ g)); more = λ ls g. absurd (open_refuted s ls (sym h ∙ g)) }

-- the walk ends at what is seen
module _ (q : Query) (order : List Rule) (k : ℕ) (s : Facts) (before : List ℕ) (c most : ℕ) (bytes : List ℕ) where
  pub lists_clash : (l : Line) (n : ℕ) → look q order s ≡ clashing l → c ≤ 16001 → n ≡ counted c → bytes ≡ put_line before c l → Lists (Some n) (walk q order k s) before c most bytes
  unfolding put_all count_all
  lists_clash l n h b f g =
      let e : walk q order k s ≡ refutation (l ∷ []) = walk-clashing q order k s l h in
      record {
        same_length = ap length g ∙ put_line-length' before c l;
        bounded = subst (λ (j : ℕ). j ≤ 16001) (sym f) (count_all_bound c (l ∷ []) b);
        whole = λ ls g'. subst (λ (ms : List Line). (n ≡ count_all c ms) × (bytes ≡ put_all before c ms)) (same_lines (l ∷ []) ls (sym e ∙ g')) (f, g);
        more = λ ls g'. tt;
      }

  pub lists_saturated : look q order s ≡ saturated → length bytes ≡ length before → Lists None (walk q order k s) before c most bytes
  lists_saturated h l = lists_open None (walk q order k s) s before c most bytes (walk-saturated q order k s h) l tt

-- The branches one after the other: those before i are refuted by lines that are written and counted; or one is not refuted
module _ (q : Query) (order : List Rule) (k : ℕ) (s : Facts) (link : ℕ) (rule : Rule) (x y z : ℕ) where
  abbrev m : Move
  m = move link rule (triple x y z)

  abbrev cs : List Fact
  cs = alternatives (term_count q) s.graph m

  abbrev w : Facts → Ending
  w = walk q order (k - 1)

  abbrev each : Ending
  each = walk_each (term_count q) w s cs

  -- which alternative stands past the end does not matter
  abbrev other : Fact
  other = equal 0 0

  abbrev pub Going : List ℕ → ℕ → ℕ → List ℕ → ℕ → Type 0
  Going before c i bytes count = ((t : Facts) × (each ≡ saturation t)) ⊎ Turn (term_count q) w s cs before c i bytes count

  pub going_first : (before : List ℕ) (c : ℕ) → Going before c 0 before c
  going_first before c = inr (turn_first (term_count q) w s cs before c)

  module _ (n : ℕ) (terms_are : n ≡ term_count q) (before : List ℕ) (c i : ℕ) (bytes bytes' : List ℕ) (count most : ℕ) (in_row : i < count_of rule z)
      (j : Joined) (j_is : j ≡ branch n s (alternative_at link n (s.graph link) rule x y z i)) (r : Option ℕ)
      (listed : Lists r (walk_branch w j) bytes count most bytes') where
    in_alternatives : i < length cs
    in_alternatives = omega (arith, count_is link (term_count q) s.graph rule x y z)

    walked : (e : Ending) → walk_branch w j ≡ e → walk_branch w (branch (term_count q) s (get_or cs i other)) ≡ e
    walked e h = branch_walked q order (k - 1) n s j link rule x y z i other terms_are in_row j_is ∙ h

    open_now : (t : Turn (term_count q) w s cs before c i bytes count) (u : Facts) → walk_branch w j ≡ saturation u → each ≡ saturation u
    unfolding after
    open_now t u h = t.left ∙ ap (after t.lines) (each_saturated (term_count q) w s cs i other u in_alternatives (walked (saturation u) h))

    -- the lines so far and those of this branch stand in front of the others
    in_front : (t : Turn (term_count q) w s cs before c i bytes count) (ls : List Line) → walk_branch w j ≡ refutation ls → each ≡ after (t.lines ++ ls) (walk_each (term_count q) w s (drop (i + 1) cs))
    in_front t ls h =
        t.left
        ∙ ap (after t.lines) (each_refuted (term_count q) w s cs i other ls in_alternatives (walked (refutation ls) h))
        ∙ after-after t.lines ls (walk_each (term_count q) w s (drop (i + 1) cs))

    pub going_next : (d : ℕ) → Going before c i bytes count → r ≡ Some d → Going before c (i + 1) bytes' d
    going_next d (inl o) f = inl o
    going_next d (inr t) f = go (walk_branch w j) refl
      where
        go : (e : Ending) → walk_branch w j ≡ e → Going before c (i + 1) bytes' d
        go (refutation ls) h =
            let p = subst (λ (o : Option ℕ). IfSome o (λ n. (n ≡ count_all count ls) × (bytes' ≡ put_all bytes count ls))) f (listed.whole ls h) in
            inr
            (record {
              lines = t.lines ++ ls;
              left = in_front t ls h;
              written = p.1 ∙ ap (λ (b : List ℕ). put_all b count ls) t.written ∙ ap (λ (d : ℕ). put_all (put_all before c t.lines) d ls) t.counts ∙ sym (put_all-append before c t.lines ls);
              counts = p.0 ∙ ap (λ (d : ℕ). count_all d ls) t.counts ∙ sym (count_all-append c t.lines ls);
            })
        go (saturation u) h = inl (u, open_now t u h)

    -- a branch that was stopped
    more_open : (l : Line) (c₀ : ℕ) (u : Facts) (ls : List Line) → each ≡ saturation u → after (l ∷ []) each ≡ refutation ls → most < count_all c₀ ls
    unfolding after
    more_open l c₀ u ls h g = absurd (open_refuted u ls (sym (ap (after (l ∷ [])) h) ∙ g))

    more_here : (l : Line) (c₀ : ℕ) → c ≡ counted c₀ → (t : Turn (term_count q) w s cs before c i bytes count) (ms ls : List Line) →
        walk_branch w j ≡ refutation ms → r ≡ None → after (l ∷ []) each ≡ refutation ls → most < count_all c₀ ls
    unfolding count_all
    more_here l c₀ ec t ms ls h f g =
        more_of (l ∷ (t.lines ++ ms)) (walk_each (term_count q) w s (drop (i + 1) cs)) ls c₀ most
        (sym (ap (after (l ∷ [])) (in_front t ms h) ∙ after-after (l ∷ []) (t.lines ++ ms) (walk_each (term_count q) w s (drop (i + 1) cs))) ∙ g)
        (subst (λ (d : ℕ). most < d) (ap (λ (d : ℕ). count_all d ms) t.counts ∙ sym (count_all-append c t.lines ms) ∙ ap (λ (d : ℕ). count_all d (t.lines ++ ms)) ec) (subst (λ (o : Option ℕ). IfNone o (most < count_all count ms)) f (listed.more ms h)))

    more_now : (l : Line) (c₀ : ℕ) → c ≡ counted c₀ → Going before c i bytes count → (ls : List Line) → r ≡ None → after (l ∷ []) each ≡ refutation ls → most < count_all c₀ ls
    more_now l c₀ ec (inl o) ls f g = more_open l c₀ o.0 ls o.1 g
    more_now l c₀ ec (inr t) ls f g = go (walk_branch w j) refl
      where
        go : (e : Ending) → walk_branch w j ≡ e → most < count_all c₀ ls
        go (refutation ms) h = more_here l c₀ ec t ms ls h f g
        go (saturation u) h = more_open l c₀ u ls (open_now t u h) g

    pub going_stop : look q order s ≡ applying m → 1 ≤ k → (old : List ℕ) (c₀ : ℕ) → c ≡ counted c₀ → length bytes ≡ length old →
        Going before c i bytes count → r ≡ None → Lists None (walk q order k s) old c₀ most bytes'
    going_stop seen some_left old c₀ ec same g f =
        let e : walk q order k s ≡ after (move_line m ∷ []) each = walk-applying q order k s m some_left seen in
        record {
          same_length = listed.same_length ∙ same;
          bounded = tt;
          whole = λ ls h. tt;
          more = λ ls h. more_now (move_line m) c₀ ec g ls f (sym e ∙ h);
        }

  -- no branch is left
  pub going_last : look q order s ≡ applying m → 1 ≤ k → (before : List ℕ) (c i : ℕ) (bytes : List ℕ) (count most : ℕ) →
      Going before c i bytes count → count_of rule z ≤ i → (old : List ℕ) (c₀ a : ℕ) → a ≡ move_number link rule →
      before ≡ put_line old c₀ (line a x y z) → c ≡ counted c₀ → length bytes ≡ length old → count ≤ 16001 →
      Lists (Some count) (walk q order k s) old c₀ most bytes
  unfolding after count_all put_all
  going_last seen some_left before c i bytes count most (inl o) past old c₀ a num eb ec same b =
      lists_open (Some count) (walk q order k s) o.0 old c₀ most bytes (walk-applying q order k s m some_left seen ∙ ap (after (move_line m ∷ [])) o.1) same b
  going_last seen some_left before c i bytes count most (inr t) past old c₀ a num eb ec same b =
      record {
        same_length = same;
        bounded = b;
        whole = λ ls h. subst (λ (ms : List Line). (count ≡ count_all c₀ ms) × (bytes ≡ put_all old c₀ ms)) (same_lines (move_line m ∷ t.lines) ls (sym e ∙ h)) (counts_all, writes_all);
        more = λ ls h. tt;
      }
    where
      e : walk q order k s ≡ refutation (move_line m ∷ t.lines)
      e = walk-applying q order k s m some_left seen ∙ turn_whole (term_count q) w s cs before c i bytes count t (omega (arith, count_is link (term_count q) s.graph rule x y z)) (move_line m)

      counts_all : count ≡ count_all c₀ (move_line m ∷ t.lines)
      counts_all = t.counts ∙ ap (λ (d : ℕ). count_all d t.lines) ec

      writes_all : bytes ≡ put_all old c₀ (move_line m ∷ t.lines)
      writes_all = t.written ∙ ap (λ (b : List ℕ). put_all b c t.lines) (eb ∙ ap (put_line old c₀) (move-line link rule x y z a num))
          ∙ ap (λ (d : ℕ). put_all (put_line old c₀ (move_line m)) d t.lines) ec

-- The lines of the joins stand in front, written and counted
module _ (w : Facts → Ending) (j : Joined) (before mid : List ℕ) (c c₁ most : ℕ) (ec : c₁ ≡ count_all c (join_lines j.pairs)) (em : mid ≡ put_all before c (join_lines j.pairs)) where
  abbrev ls : List Line
  ls = join_lines j.pairs

  split : (e : Ending) (ks : List Line) → after ls e ≡ refutation ks → (ms : List Line) × (e ≡ refutation ms) × (ls ++ ms ≡ ks)
  unfolding after
  split (refutation ms) ks h = (ms, refl, same_lines (ls ++ ms) ks h)
  split (saturation s) ks h = absurd (open_refuted s ks h)

  mid_length : length mid ≡ length before
  mid_length = ap length em ∙ put_all-length' before c ls

  -- what was counted behind them
  whole_after : (bytes : List ℕ) (r : Option ℕ) (ms ks : List Line) → ls ++ ms ≡ ks → IfSome r (λ n. (n ≡ count_all c₁ ms) × (bytes ≡ put_all mid c₁ ms)) →
      IfSome r (λ n. (n ≡ count_all c ks) × (bytes ≡ put_all before c ks))
  whole_after bytes None ms ks g p = tt
  whole_after bytes (Some n) ms ks g p =
      subst (λ (xs : List Line). (n ≡ count_all c xs) × (bytes ≡ put_all before c xs)) g (
        p.0 ∙ ap (λ (d : ℕ). count_all d ms) ec ∙ sym (count_all-append c ls ms),
        p.1 ∙ ap (λ (x : List ℕ). put_all x c₁ ms) em ∙ ap (λ (d : ℕ). put_all (put_all before c ls) d ms) ec ∙ sym (put_all-append before c ls ms),
      )

  more_after : (r : Option ℕ) (ms ks : List Line) → ls ++ ms ≡ ks → IfNone r (most < count_all c₁ ms) → IfNone r (most < count_all c ks)
  more_after None ms ks g p =
      subst (λ (xs : List Line). most < count_all c xs) g (subst (λ (d : ℕ). most < d) (ap (λ (d : ℕ). count_all d ms) ec ∙ sym (count_all-append c ls ms)) p)
  more_after (Some n) ms ks g p = tt

  pub lists_after : (r : Option ℕ) (bytes : List ℕ) → Lists r (w j.facts) mid c₁ most bytes → Lists r (walk_branch w j) before c most bytes
  unfolding walk_branch
  lists_after r bytes p =
      record {
        same_length = p.same_length ∙ mid_length;
        bounded = p.bounded;
        whole = λ ks h. let (ms, e, g) = split (w j.facts) ks h in whole_after bytes r ms ks g (p.whole ms e);
        more = λ ks h. let (ms, e, g) = split (w j.facts) ks h in more_after r ms ks g (p.more ms e);
      }

  -- there are more of them than asked for
  pub lists_early : most < c₁ → Lists None (walk_branch w j) before c most mid
  unfolding walk_branch
  lists_early l =
      record {
        same_length = mid_length;
        bounded = tt;
        whole = λ ks h. tt;
        more = λ ks h. more_of ls (w j.facts) ks c most h (subst (λ (d : ℕ). most < d) ec l);
      }
