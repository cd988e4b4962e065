-- The prefixes of a term, one link after the other.
use Prim.Native.Nat.{ℕ, zero, suc, ◌+◌, ◌≤◌, ◌<◌}
use native.Mathlib.Numerals.{add-one}
use borrow.Author.Tests.{eq-eqb, ne_eqb}
use mathlib.Core.Path.{◌≡◌, refl, ap, sym, subst, ◌∙◌}
use mathlib.Core.Bool.{Bool, true, false, cond}
use mathlib.Core.List.{List, [], ◌∷◌, ◌++◌}
use mathlib.Core.Option.{Option, some}
use lib.ListN.{length, take, drop, drop_of_length-le}
use lib.Seq.{drop-cons}
use lib.Dec.{eqb}
use Rattle.logic.specs.Search.{or_else}
use Rattle.routine_logic.specs.Syntax.{Term}
use Rattle.routine_logic.specs.State.{State, null_node}
use Rattle.routine_logic.specs.Formulas.{base_node, follow, node}
use Rattle.routine_logic.specs.Runs.{prefixes, dereferenced}
use Rattle.routine_table.specs.Cells.{Table, cell, base_of, links_of, term_of}
use Rattle.routine_formulas.specs.Names.{bound_in}
use Rattle.std.specs.Prelude.{Some, None}
use Rattle.routine_nulls.specs.Nulls.{first_null, prefix_of, null_of}

cond-or : (b : Bool) (t : Term) (o q : Option Term) → cond b (some t) (or_else o q) ≡ or_else (cond b (some t) o) q
unfolding or_else
cond-or true t o q = refl
cond-or false t o q = refl

-- the first of some terms, or else of others: "an atom's terms from left to right"
pub first_null-append : (s : State) (ts us : List Term) → first_null s (ts ++ us) ≡ or_else (first_null s ts) (first_null s us)
unfolding first_null or_else
first_null-append s [] us = refl
first_null-append s (t ∷ ts) us =
    ap (λ (o : Option Term). cond (eqb (node s [] t) null_node) (some t) o) (first_null-append s ts us)
    ∙ cond-or (eqb (node s [] t) null_node) t (first_null s ts) (first_null s us)

take_more : (xs : List ℕ) (k i : ℕ) (rest : List ℕ) → drop k xs ≡ i ∷ rest → take (suc k) xs ≡ take k xs ++ (i ∷ [])
take_more [] zero i rest h = ap (take 1) h
take_more [] (suc k) i rest h = ap (take 1) h
take_more (x ∷ xs) zero i rest h = ap (take 1) h
take_more (x ∷ xs) (suc k) i rest h = ap (λ (ys : List ℕ). x ∷ ys) (take_more xs k i rest h)

drop_more : (xs : List ℕ) (k i : ℕ) (rest : List ℕ) → drop k xs ≡ i ∷ rest → drop (suc k) xs ≡ rest
drop_more [] zero i rest h = ap (drop 1) h
drop_more [] (suc k) i rest h = ap (drop 1) h
drop_more (x ∷ xs) zero i rest h = ap (drop 1) h
drop_more (x ∷ xs) (suc k) i rest h = drop_more xs k i rest h

follow-more : (s : State) (xs : List ℕ) (i v : ℕ) → follow s (xs ++ (i ∷ [])) v ≡ s.link i (follow s xs v)
unfolding follow
follow-more s [] i v = refl
follow-more s (x ∷ xs) i v = follow-more s xs i (s.link x v)

-- Where a walk is behind k links, at a place of the table: its node, the links that are left, and what is left to look at.
pub record At (s : State) (t : Table) (p k at v : ℕ) : Type 0 where
  pub node_is : v ≡ node s [] (prefix_of t p k)
  pub left : drop k (links_of (drop (p + 1) t)) ≡ links_of (drop at t)
  pub looks : first_null s (dereferenced (term_of t p)) ≡ first_null s (prefixes (prefix_of t p k) (links_of (drop at t)))

pub behind_links : {s : State} {t : Table} {p k m at v : ℕ} → k ≡ m → At s t p k at v → At s t p m at v
behind_links {s} {t} {p} {k} {m} {at} {v} e a = subst (λ (n : ℕ). At s t p n at v) e a

module _ (s : State) (t : Table) where
  pub at_begin : (p c v : ℕ) (xs : List ℕ) → c ≡ cell t p → v ≡ base_node s (bound_in xs 0) (base_of c) → At s t p 0 (p + 1) v
  unfolding node follow prefix_of dereferenced term_of bound_in
  at_begin p c v xs h q = record { node_is = q ∙ ap (λ (b : ℕ). base_node s [] (base_of b)) h; left = refl; looks = refl }

  links-none : (at i : ℕ) → at < length t → i ≡ cell t at → i ≡ 0 → links_of (drop at t) ≡ []
  unfolding links_of
  links-none at i h k z = rw (drop-cons t at 0 h, eq-eqb (cell t at) 0 (sym k ∙ z))

  links_next : (at i : ℕ) → at < length t → i ≡ cell t at → (i ≡ 0 → ⊥) → links_of (drop at t) ≡ i ∷ links_of (drop (at + 1) t)
  unfolding links_of
  links_next at i h k z = rw (drop-cons t at 0 h, ne_eqb (cell t at) 0 (λ n. z (k ∙ n)), add-one at) (ap (λ (j : ℕ). j ∷ links_of (drop (suc at) t)) (sym k))

  links_end : (at : ℕ) → length t ≤ at → links_of (drop at t) ≡ []
  unfolding links_of
  links_end at h = rw (drop_of_length-le t {i = at} h)

  nowhere : (p k at v : ℕ) → At s t p k at v → links_of (drop at t) ≡ [] → null_of t p None ≡ first_null s (dereferenced (term_of t p))
  unfolding null_of first_null prefixes
  nowhere p k at v a h = sym (a.looks ∙ ap (λ (is : List ℕ). first_null s (prefixes (prefix_of t p k) is)) h)

  pub null_done : (p k at i v : ℕ) → At s t p k at v → at < length t → i ≡ cell t at → i ≡ 0 → null_of t p None ≡ first_null s (dereferenced (term_of t p))
  null_done p k at i v a h e z = nowhere p k at v a (links-none at i h e z)

  pub null_end : (p k at v : ℕ) → At s t p k at v → length t ≤ at → null_of t p None ≡ first_null s (dereferenced (term_of t p))
  null_end p k at v a h = nowhere p k at v a (links_end at h)

  module _ (p k at i v : ℕ) (a : At s t p k at v) (inside : at < length t) (read : i ≡ cell t at) (more : i ≡ 0 → ⊥) where
    looks_next : first_null s (dereferenced (term_of t p)) ≡ first_null s (prefixes (prefix_of t p k) (i ∷ links_of (drop (at + 1) t)))
    looks_next = a.looks ∙ ap (λ (is : List ℕ). first_null s (prefixes (prefix_of t p k) is)) (links_next at i inside read more)

    pub null_here : v ≡ 1 → null_of t p (Some k) ≡ first_null s (dereferenced (term_of t p))
    unfolding null_of first_null prefixes
    null_here h = sym (looks_next ∙ rw (eq-eqb (node s [] (prefix_of t p k)) 1 (sym a.node_is ∙ h)))

    split : drop k (links_of (drop (p + 1) t)) ≡ i ∷ links_of (drop (at + 1) t)
    split = a.left ∙ links_next at i inside read more

    longer : record { base = (prefix_of t p k).base; links = (prefix_of t p k).links ++ (i ∷ []) } ≡ prefix_of t p (k + 1)
    unfolding prefix_of
    longer = rw (add-one k) (ap (λ (is : List ℕ). record { base = base_of (cell t p); links = is }) (sym (take_more (links_of (drop (p + 1) t)) k i _ split)))

    node-longer : node s [] (prefix_of t p (k + 1)) ≡ s.link i (node s [] (prefix_of t p k))
    unfolding node prefix_of
    node-longer = ap (λ (u : Term). node s [] u) (sym longer) ∙ follow-more s (take k (links_of (drop (p + 1) t))) i _

    pub at_next : (w : ℕ) → (v ≡ 1 → ⊥) → w ≡ s.link i v → At s t p (k + 1) (at + 1) w
    unfolding first_null prefixes
    at_next w n q =
        record {
          node_is = q ∙ ap (s.link i) a.node_is ∙ sym node-longer;
          left = rw (add-one k) (drop_more (links_of (drop (p + 1) t)) k i _ split);
          looks =
              looks_next
              ∙ rw (ne_eqb (node s [] (prefix_of t p k)) 1 (λ e. n (a.node_is ∙ e)))
              (ap (λ (u : Term). first_null s (prefixes u (links_of (drop (at + 1) t)))) longer);
        }
