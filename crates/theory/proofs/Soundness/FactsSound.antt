-- The facts of a path stay true of a heap where what is joined or added is true of it, and the start is true of every heap that meets
-- the query.
use Prim.Native.Nat.{ℕ, zero, suc, ◌≤◌, ◌<◌, min, max}
use native.Mathlib.Omega.{arith}
use native.Mathlib.Nat.{min-eq_left, min-eq_right, max-eq_left, max-eq_right}
use mathlib.Core.Path.{◌≡◌, refl, sym, ap, ◌∙◌, subst, subst₂}
use mathlib.Core.Logic.{⊎_elim}
use mathlib.Core.Bool.{Bool, true, false, cond, false≢true}
use mathlib.Core.List.{List, [], ◌∷◌, Memᴰ}
use mathlib.Core.Option.{Option, none, some, Option-elim}
use lib.Dec.{eqb, ltb, leb}
use Rattle.logic.specs.Search.{◌and◌}
use Rattle.logic.specs.Query.{Literal, Query, argument_of, link_of, term_count, literal}
use Rattle.logic.specs.Heap.{Heap, Reaches, Meets, value}
use Rattle.logic.specs.Facts.{Facts, replace_in, replace, doubled, unjoined, and_then, settle, join, add_reach, links_of}
use Rattle.logic.specs.Facts.{join_each, reach_each, nil_terms, add_links, equal_to, add_nil_links, join_nil, start_joins, start}
use Rattle.logic.specs.Rules.{Fact, equal, reaches, branch, add}
use Rattle.theory.proofs.Basics.Search.{and_left, and_right, or_cases, map-mem}
use Rattle.theory.proofs.Basics.Compare.{eqb-true, ltb-true, eq_cases, le_cases}
use Rattle.theory.proofs.Query.Tied.{Accepted}
use Rattle.theory.proofs.Query.Entries.{argument_range, nil_terms_names}
use Rattle.theory.proofs.Paths.Replace.{sub, sub_hit, sub_miss, replace_in-true}
use Rattle.theory.proofs.Paths.Doubled.{doubled-some}
use Rattle.theory.proofs.Paths.Joined.{settle_step, join-facts, join_each_step}
use Rattle.theory.proofs.Soundness.Value.{accepted_below, value-link, signed_true}
use Rattle.theory.proofs.Soundness.Truth.{Between, between, Same, Linked, Reached, True, Holds, same_refl, between_same, rep-between}

-- A term replaced by one of the same value
module _ (val : ℕ → ℕ) (lo hi : ℕ) (same : Same val lo hi) where
  sub_same : (x : ℕ) → 1 ≤ x → Same val (sub lo hi x) x
  sub_same x l =
      ⊎_elim
      (λ e. subst₂ (Same val) (sym (sub_hit lo hi) ∙ ap (sub lo hi) (sym e)) (sym e) same)
      (λ d. subst (λ (y : ℕ). Same val y x) (sym (sub_miss lo hi x d.0)) (same_refl val x l))
      (eq_cases x hi)

  replaced_true : (R : ℕ → ℕ → Type 0) (F : ℕ → ℕ → Bool) → ((a b : ℕ) → F a b ≡ true → Between val R a b) → (a b : ℕ) → replace_in lo hi F a b ≡ true → Between val R a b
  replaced_true R F h a b e =
      let p = replace_in-true lo hi F a b e in
      let r = h p.0 p.1 p.2 in
      subst₂ (Between val R) p.3 p.4 (between_same (sub_same p.0 r.left_term) (sub_same p.1 r.right_term) r)

module _ (f : ℕ → ℕ → ℕ) (val : ℕ → ℕ) (n : ℕ) where
  holds_replace : (lo hi : ℕ) → Same val lo hi → (s : Facts) → Holds f val s → Holds f val (replace lo hi s)
  unfolding replace sub
  holds_replace lo hi same s h =
      record {
        rep_true = λ t l. between_same (sub_same val lo hi same (s.rep t) (h.rep_true t l).left_term) (same_refl val t l) (h.rep_true t l);
        graph_true = λ i. record {
          link_true = replaced_true val lo hi same (λ v w. f i v ≡ w) (s.graph i).link (h.graph_true i).link_true;
          reach_true = replaced_true val lo hi same (Reaches (f i)) (s.graph i).reach (h.graph_true i).reach_true;
        };
      }

  -- a link has one value: two successors of a term by it are the same
  doubled-same : (s : Facts) → Holds f val s → (ab : ℕ × ℕ) → doubled n s ≡ some ab → Same val ab.0 ab.1
  doubled-same s h ab e =
      let d = doubled-some n s ab e in
      let k = (h.graph_true d.link).link_true d.term ab.0 d.low in
      let l = (h.graph_true d.link).link_true d.term ab.1 d.high in
      between k.right_term l.right_term (sym k.stands ∙ l.stands)

  holds_settle : (k : ℕ) (s : Facts) → Holds f val s → Holds f val (settle n k s).facts
  unfolding settle unjoined Option-elim
  holds_settle zero s h = h
  holds_settle (suc k) s h =
      rw (settle_step n k s)
      (go (doubled n s) (λ ab e. holds_settle k (replace ab.0 ab.1 s) (holds_replace ab.0 ab.1 (doubled-same s h ab e) s h)))
    where
      go : (o : Option (ℕ × ℕ)) → ((ab : ℕ × ℕ) → o ≡ some ab → Holds f val (settle n k (replace ab.0 ab.1 s)).facts) →
          Holds f val (Option-elim o s (λ ab. (settle n k (replace ab.0 ab.1 s)).facts))
      go none r = h
      go (some ab) r = r ab refl

  same_ordered : (a b : ℕ) → Same val a b → Same val (min a b) (max a b)
  same_ordered a b p =
      ⊎_elim
      (λ l. subst₂ (Same val) (sym (min-eq_left l)) (sym (max-eq_right l)) p)
      (λ l. subst₂ (Same val) (sym (min-eq_right (lt-le l))) (sym (max-eq_left (lt-le l)))
      (between p.right_term p.left_term (sym p.stands)))
      (le_cases a b)
    where
      lt-le : {a b : ℕ} → a < b → a ≤ b
      lt-le l = omega arith

  -- what is done where a test passes
  holds_cond : (b : Bool) (s t : Facts) → (b ≡ true → Holds f val s) → (b ≡ false → Holds f val t) → Holds f val (cond b s t)
  holds_cond true s t p q = p refl
  holds_cond false s t p q = q refl

  pub holds_join : (a b : ℕ) → Same val a b → (s : Facts) → Holds f val s → Holds f val (join n a b s).facts
  holds_join a b same s h =
      rw (join-facts n a b s)
      (holds_cond (eqb a b) s (settle n n (replace (min a b) (max a b) s)).facts (λ e. h)
      (λ e. holds_settle n (replace (min a b) (max a b) s) (holds_replace (min a b) (max a b) (same_ordered a b same) s h)))

  pub holds_add_reach : (i a b : ℕ) → Reached (f i) val a b → (s : Facts) → Holds f val s → Holds f val (add_reach i a b s)
  unfolding add_reach
  holds_add_reach i a b r s h =
      record {
        rep_true = h.rep_true;
        graph_true = λ j. record {
          link_true = (h.graph_true j).link_true;
          reach_true = λ x y e. ⊎_elim ((h.graph_true j).reach_true x y) (here j x y) (or_cases ((s.graph j).reach x y) (eqb j i and eqb x a and eqb y b) e);
        };
      }
    where
      here : (j x y : ℕ) → eqb j i and eqb x a and eqb y b ≡ true → Reached (f j) val x y
      here j x y e =
          subst (λ (k : ℕ). Reached (f k) val x y) (sym (eqb-true j i (and_left _ _ (and_left _ _ e))))
          (subst₂ (Reached (f i) val) (sym (eqb-true x a (and_right _ _ (and_left _ _ e)))) (sym (eqb-true y b (and_right _ _ e))) r)

  holds_add_links : (a b : ℕ) → ((i : ℕ) → Linked (f i) val a b) → (s : Facts) → Holds f val s → Holds f val (add_links a b s)
  unfolding add_links
  holds_add_links a b r s h =
      record {
        rep_true = h.rep_true;
        graph_true = λ j. record {
          link_true = λ x y e. ⊎_elim ((h.graph_true j).link_true x y) (here j x y) (or_cases ((s.graph j).link x y) (ltb 0 j and leb j s.links and eqb x a and eqb y b) e);
          reach_true = (h.graph_true j).reach_true;
        };
      }
    where
      here : (j x y : ℕ) → ltb 0 j and leb j s.links and eqb x a and eqb y b ≡ true → Linked (f j) val x y
      here j x y e = subst₂ (Linked (f j) val) (sym (eqb-true x a (and_right _ _ (and_left _ _ e)))) (sym (eqb-true y b (and_right _ _ e))) (r j)

  pub holds_add : (c : Fact) → True f val c → (s : Facts) → Holds f val s → Holds f val (add n s c)
  unfolding add branch unjoined
  holds_add (equal a b) t s h = holds_join a b t s h
  holds_add (reaches i a b) t s h = holds_add_reach i a b t s h

  -- literals that are true, read through `rep`
  holds_join_each : (ls : List Literal) → ((l : Literal) → Memᴰ l ls → l.plain ≡ true → Same val l.left l.right) → (s : Facts) → Holds f val s → Holds f val (join_each n ls s).facts
  unfolding join_each unjoined
  holds_join_each [] p s h = h
  holds_join_each (l ∷ ls) p s h =
      rw (join_each_step n l ls s)
      (holds_join_each ls (λ m i. p m (Memᴰ.tail i)) _
      (holds_cond l.plain (join n (s.rep l.left) (s.rep l.right) s).facts s (λ e. holds_join _ _ (rep-between f val s h (p l (Memᴰ.head refl) e)) s h) (λ e. h)))

  -- nil terms of one value, each of whose links goes to itself
  holds_join_nil : (ts : List ℕ) → ((t u : ℕ) → Memᴰ t ts → Memᴰ u ts → Same val t u) → ((i t : ℕ) → Memᴰ t ts → Linked (f i) val t t) →
      (s : Facts) → Holds f val s → Holds f val (join_nil n ts s).facts
  unfolding join_nil unjoined and_then add_nil_links equal_to
  holds_join_nil [] same own s h = h
  holds_join_nil (t ∷ us) same own s h =
      let equal : (l : Literal) → Memᴰ l (equal_to t us) → l.plain ≡ true → Same val l.left l.right = λ l m e.
      let (u, k, p) = map-mem (λ u. literal true t u) l us m in
      subst (λ (x : Literal). Same val x.left x.right) (sym p) (same t u (Memᴰ.head refl) (Memᴰ.tail k)) in
      let j = holds_join_each (equal_to t us) equal s h in
      holds_settle n _ (holds_add_links _ _ (λ i. rep-between f val _ j (own i t (Memᴰ.head refl))) _ j)

  holds_reach_each : (ls : List Literal) → ((l : Literal) → Memᴰ l ls → l.plain ≡ true → Reached (f l.link) val l.left l.right) →
      (s : Facts) → Holds f val s → Holds f val (reach_each ls s)
  unfolding reach_each
  holds_reach_each [] p s h = h
  holds_reach_each (l ∷ ls) p s h =
      holds_reach_each ls (λ m i. p m (Memᴰ.tail i)) _
      (holds_cond l.plain (add_reach l.link (s.rep l.left) (s.rep l.right) s) s (λ e. holds_add_reach l.link _ _ (rep-between f val s h (p l (Memᴰ.head refl) e)) s h) (λ e. h))

module _ (q : Query) (ok : Accepted q) (h : Heap) where
  abbrev val : ℕ → ℕ
  val = value h q.entries

  -- the value of f of a term is the link of that term's value
  links_hold : Holds h.link val (links_of q)
  unfolding links_of
  links_hold =
      record {
        rep_true = same_refl val;
        graph_true = λ i. record {
          link_true = λ a b e.
              let p = and_left _ _ e in
              subst (λ (k : ℕ). Linked (h.link k) val a b) (eqb-true (link_of q.entries b) i (and_right _ _ e))
              (linked a b (ltb-true 0 a (and_left _ _ p)) (eqb-true (argument_of q.entries b) a (and_right _ _ p)));
          reach_true = λ a b e. absurd (false≢true e);
        };
      }
    where
      linked : (a b : ℕ) → 1 ≤ a → argument_of q.entries b ≡ a → Linked (h.link (link_of q.entries b)) val a b
      linked a b l e =
          let one : 1 ≤ argument_of q.entries b = omega arith in
          between l (argument_range q.entries b one).0
          (ap (λ (t : ℕ). h.link (link_of q.entries b) (val t)) (sym e) ∙ sym (value-link h q.entries (accepted_below q ok) b one))

  pub start_holds : Meets h q → Holds h.link (value h q.entries) (start q)
  unfolding start start_joins and_then
  start_holds m =
      let n = term_count q in
      holds_reach_each h.link val n q.reachability (λ l i e. let t = ok.reach_terms l i in between t.0.0 t.1.0 (signed_true l.plain e (m.reachability l i))) _
      (holds_join_each h.link val n q.equalities (λ l i e. let t = ok.equal_terms l i in between t.0.0 t.1.0 (signed_true l.plain e (m.equalities l i))) _
      (holds_join_nil h.link val n (nil_terms q)
      (λ t u i k. let (r, e) = nil_terms_names q t i in let (r', e') = nil_terms_names q u k in between r.0 r'.0 (m.nil_node.one_node' t u e e'))
      (λ k t i. let (r, e) = nil_terms_names q t i in between r.0 r.0 (m.nil_node.own_link k t e)) _
      (holds_settle h.link val n n (links_of q) links_hold)))
