-- The links as the code holds them, read and written.
use Prim.Native.Nat.{ℕ, ◌+◌, ◌≤◌, ◌<◌}
use native.Mathlib.Omega.{arith}
use mathlib.Core.Path.{◌≡◌, refl, sym, ap, ◌∙◌, fun_ext}
use mathlib.Core.Logic.{⊎_elim}
use mathlib.Core.Bool.{Bool, true, false, cond}
use mathlib.Core.List.{List}
use mathlib.Core.Option
use mathlib.Core.Option.{Option, none, some}
use lib.ListN.{length, get_or, set, get_or-eq_default}
use lib.Seq.{get_or-set_same, get_or-set_other}
use lib.Dec.{ltb, eqb}
use borrow.Author.Tests.{ltb-true, ltb-false, eqb-true, eqb-false, eq-eqb}
use Rattle.logic.specs.Search.{from, find}
use Rattle.logic.specs.Facts.{Graph, terms}
use Rattle.logic.specs.Rules.{next}
use Rattle.theory.proofs.Basics.Search.{bool_cases, find-some, from-mem}
use Rattle.std.specs.Prelude as code
use Rattle.std.specs.Option.{unwrap_or}
use Rattle.rows.specs.declared.Term.{Term}
use Rattle.rows.specs.Options.{found_of}
use Rattle.rows.specs.Square.{square}
use Rattle.facts.specs.Path.{links_in}
use Rattle.rows.proofs.Square.{square_above}
use Rattle.completion.specs.Links.{link_of, InRange}
use Rattle.rows.proofs.Selections.{find_nothing}

pub link_beyond : (links : List ℕ) (t : ℕ) → length links ≤ t → link_of links t ≡ 0
unfolding link_of
link_beyond links t h = get_or-eq_default links 0 h

-- where one number is written, only that is changed
pub number_set : (xs : List ℕ) (t : ℕ) → t < length xs → (v x : ℕ) → get_or (set xs t v) x 0 ≡ cond (eqb x t) v (get_or xs x 0)
number_set xs t h v x = ⊎_elim same other (bool_cases (eqb x t))
  where
    same : eqb x t ≡ true → get_or (set xs t v) x 0 ≡ cond (eqb x t) v (get_or xs x 0)
    same e = rw (eqb-true x t e, eq-eqb t t refl) (get_or-set_same xs t v 0 h)

    other : eqb x t ≡ false → get_or (set xs t v) x 0 ≡ cond (eqb x t) v (get_or xs x 0)
    other e = rw e (get_or-set_other xs t x v 0 (eqb-false x t e))

pub link_set : (links : List ℕ) (t : ℕ) → t < length links → (v x : ℕ) → link_of (set links t v) x ≡ cond (eqb x t) v (link_of links x)
unfolding link_of
link_set links t h v x = number_set links t h v x

-- the numbers below k have the links that f says
abbrev pub LinkedBelow : ℕ → (ℕ → ℕ) → (ℕ → ℕ) → Type 0
LinkedBelow k f p = (x : ℕ) → x < k → p x ≡ f x

pub linked_more : (f : ℕ → ℕ) (links : List ℕ) (t : ℕ) → t < length links → (v : ℕ) → v ≡ f t → LinkedBelow t f (link_of links) → LinkedBelow (t + 1) f (link_of (set links t v))
linked_more f links t h v e m x l = link_set links t h v x ∙ ⊎_elim here there (bool_cases (eqb x t))
  where
    here : eqb x t ≡ true → cond (eqb x t) v (link_of links x) ≡ f x
    here i = rw (i, eqb-true x t i) e

    there : eqb x t ≡ false → cond (eqb x t) v (link_of links x) ≡ f x
    there i = let d = eqb-false x t i in rw i (m x (omega arith))

-- a number above 16 has no link
pub next_beyond : (n : ℕ) (link : List ℕ) (t : ℕ) → 17 ≤ t → next n (links_in link) t ≡ 0
unfolding next links_in
next_beyond n link t h = ap (λ (o : Option ℕ). Option.get_or o 0) (find_nothing (square link t) (terms n) (λ x. square_above link t x h))

pub next_all : (n : ℕ) (link : List ℕ) (links : List ℕ) → length links ≡ 17 → LinkedBelow 17 (next n (links_in link)) (link_of links) → link_of links ≡ next n (links_in link)
next_all n link links full m = fun_ext (λ x. ⊎_elim (λ l. m x (ltb-true x 17 l)) (λ o. let h = ltb-false x 17 o in
    link_beyond links x (omega arith) ∙ sym (next_beyond n link x h)) (bool_cases (ltb x 17)))

-- what was found, or 0
pub found_or : (o : code.Option Term) (t : Term) → t ≡ unwrap_or o (record { 0 = 0 }) → t.0 ≡ Option.get_or (found_of o) 0
found_or (code.Some a) t e = ap (λ (u : Term). u.0) e
found_or code.None t e = ap (λ (u : Term). u.0) e

pub next_found : (n : ℕ) (link : List ℕ) (t : ℕ) (o : Option ℕ) → o ≡ find (square link t) (terms n) → Option.get_or o 0 ≡ next n (links_in link) t
unfolding next links_in
next_found n link t o e = rw e

-- what a search of the terms finds, or 0, is at most n
pub found_below : (p : ℕ → Bool) (n : ℕ) → Option.get_or (find p (terms n)) 0 ≤ n
unfolding terms
found_below p n = go (find p (from n 1)) refl
  where
    go : (o : Option ℕ) → find p (from n 1) ≡ o → Option.get_or o 0 ≤ n
    go none e = omega arith
    go (some a) e = let r = from-mem n 1 a (find-some p (from n 1) a e).0 in omega arith

pub next_below : (n : ℕ) (g : Graph) (t : ℕ) → next n g t ≤ n
unfolding next
next_below n g t = found_below (g.link t) n

pub known_range : (n : ℕ) (link : List ℕ) (links : List ℕ) → n ≤ 16 → link_of links ≡ next n (links_in link) → InRange links
known_range n link links h e t = rw e (let b = next_below n (links_in link) t in omega arith)
