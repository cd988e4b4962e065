-- The terms of a joined query: the first's keep their entries, and the second's have them raised. Assumes nothing.
use Prim.Native.Nat.{ℕ, zero, suc, ◌+◌, ◌-◌, ◌≤◌, ◌<◌}
use native.Mathlib.Omega.{arith}
use native.Mathlib.Nat.{add-suc}
use mathlib.Core.Path.{◌≡◌, refl, sym, ap, ◌∙◌}
use mathlib.Core.Logic.{◌⊎◌, inl, inr, ⊎_elim}
use mathlib.Core.Bool.{cond}
use mathlib.Core.List.{List, [], ◌++◌, map}
use lib.ListN.{length, get_or, get_or-append, get_or-map}
use lib.Seq.{get_or-append-add}
use lib.Dec.{eqb}
use Rattle.logic.specs.Search.{◌or◌}
use Rattle.logic.specs.Query.{Entries, one_link, entry_of, link_of, names_nil, argument_of}
use Rattle.theory.proofs.Basics.Compare.{eqb-false, eq_cases, le_cases}
use Rattle.joining.specs.Joined.{raised_entry}

-- an entry that is raised
raised_zero : (n : ℕ) → raised_entry n 0 ≡ 0
unfolding raised_entry ◌or◌
raised_zero n = refl

raised-nil : (n : ℕ) → raised_entry n 255 ≡ 255
unfolding raised_entry ◌or◌
raised-nil n = refl

raised_other : (n e : ℕ) → (e ≡ 0 → ⊥) → (e ≡ 255 → ⊥) → raised_entry n e ≡ n + e
unfolding raised_entry ◌or◌
raised_other n e h g = rw (eqb-false e 0 h, eqb-false e 255 g)

-- what an entry says: nil, or the argument
entry_nil : (xs : Entries) (t e : ℕ) → entry_of xs t ≡ e → (names_nil xs t ≡ eqb e 255) × (argument_of xs t ≡ cond (eqb e 255) 0 e)
unfolding names_nil argument_of
entry_nil xs t e h = rw h (refl, refl)

-- Terms of a part among the terms of the whole: term t of `own` is term g t of `all`.
pub record Among (g : ℕ → ℕ) (all own : Entries) (m : ℕ) : Type 0 where
  pub nil_same : (t : ℕ) → 1 ≤ t → t ≤ m → names_nil all (g t) ≡ names_nil own t
  pub no_argument : (t : ℕ) → 1 ≤ t → t ≤ m → argument_of own t ≡ 0 → argument_of all (g t) ≡ 0
  pub argument : (t : ℕ) → 1 ≤ t → t ≤ m → 1 ≤ argument_of own t → argument_of all (g t) ≡ g (argument_of own t)
  pub link : (t : ℕ) → link_of all (g t) ≡ link_of own t

-- where no links are listed, each is 1
pub unlisted_link : (xs : Entries) → xs.links ≡ [] → (t : ℕ) → link_of xs t ≡ 1
unfolding link_of
unlisted_link xs none t = rw none refl

module _ (xs : Entries) (ys : List ℕ) where
  entry_first : (t : ℕ) → 1 ≤ t → t ≤ length xs.terms → entry_of (one_link (xs.terms ++ ys)) t ≡ entry_of xs t
  unfolding entry_of
  entry_first zero l u = absurd (omega arith)
  entry_first (suc t) l u = get_or-append xs.terms ys 0 t u

  pub first_among : xs.links ≡ [] → Among (λ t. t) (one_link (xs.terms ++ ys)) xs (length xs.terms)
  unfolding names_nil argument_of
  first_among none =
      record {
        nil_same = λ t l u. rw (entry_first t l u);
        no_argument = λ t l u e. rw (entry_first t l u) e;
        argument = λ t l u e. rw (entry_first t l u);
        link = λ t. unlisted_link (one_link (xs.terms ++ ys)) refl t ∙ sym (unlisted_link xs none t);
      }

entry_second : (xs : List ℕ) (ys : Entries) (f : ℕ → ℕ) → f 0 ≡ 0 → (t : ℕ) → 1 ≤ t → entry_of (one_link (xs ++ map f ys.terms)) (length xs + t) ≡ f (entry_of ys t)
unfolding entry_of
entry_second xs ys f z zero l = absurd (omega arith)
entry_second xs ys f z (suc t) l =
    rw add-suc
    (get_or-append-add xs (map f ys.terms) t 0 ∙ ap (get_or (map f ys.terms) t) (sym z) ∙ get_or-map f ys.terms t 0)

-- the entries of an accepted query: 255, or below the term
module _ (n : ℕ) (xs : List ℕ) (ys : Entries) (none : ys.links ≡ []) (count : length xs ≡ n)
    (low : (t : ℕ) → (1 ≤ t) × (t ≤ length ys.terms) → argument_of ys t < t) (small : n + length ys.terms ≤ 16) where
  all : Entries
  all = one_link (xs ++ map (raised_entry n) ys.terms)

  raised_at : (t : ℕ) → 1 ≤ t → entry_of all (n + t) ≡ raised_entry n (entry_of ys t)
  unfolding all
  raised_at t l = rw (← count) (entry_second xs ys (raised_entry (length xs)) (raised_zero (length xs)) t l)

  module _ (t : ℕ) (l : 1 ≤ t) (u : t ≤ length ys.terms) where
    e : ℕ
    e = entry_of ys t

    -- a term that names nil, one that is a variable, and one with an argument
    of_nil : e ≡ 255 → (names_nil all (n + t) ≡ names_nil ys t) × (argument_of ys t ≡ 0) × (argument_of all (n + t) ≡ 0)
    unfolding e
    of_nil h =
        let own = entry_nil ys t 255 h in
        let whole = entry_nil all (n + t) 255 (raised_at t l ∙ ap (raised_entry n) h ∙ raised-nil n) in
        (whole.0 ∙ sym own.0, own.1, whole.1)

    of_variable : e ≡ 0 → (names_nil all (n + t) ≡ names_nil ys t) × (argument_of ys t ≡ 0) × (argument_of all (n + t) ≡ 0)
    unfolding e
    of_variable h =
        let own = entry_nil ys t 0 h in
        let whole = entry_nil all (n + t) 0 (raised_at t l ∙ ap (raised_entry n) h ∙ raised_zero n) in
        (whole.0 ∙ sym own.0, own.1, whole.1)

    of_argument : (e ≡ 0 → ⊥) → (e ≡ 255 → ⊥) → (names_nil all (n + t) ≡ names_nil ys t) × (argument_of ys t ≡ e) × (argument_of all (n + t) ≡ n + e)
    unfolding e
    of_argument h g =
        let own = entry_nil ys t (entry_of ys t) refl in
        let plain = eqb-false (entry_of ys t) 255 g in
        let argues : argument_of ys t ≡ entry_of ys t = own.1 ∙ rw plain in
        let below = low t (l, u) in
        let whole = entry_nil all (n + t) (n + entry_of ys t) (raised_at t l ∙ raised_other n (entry_of ys t) h g) in
        let other = eqb-false (n + entry_of ys t) 255 (omega arith) in
        (whole.0 ∙ other ∙ sym (own.0 ∙ plain), argues, whole.1 ∙ rw other)

  pub second_among : Among (λ t. n + t) (one_link (xs ++ map (raised_entry n) ys.terms)) ys (length ys.terms)
  unfolding all e
  second_among =
      record {
        nil_same = λ t l u. (each t l u).0;
        no_argument = λ t l u z. (each t l u).1 z;
        argument = λ t l u one. (each t l u).2 one;
        link = λ t. unlisted_link (one_link (xs ++ map (raised_entry n) ys.terms)) refl (n + t) ∙ sym (unlisted_link ys none t);
      }
    where
      each : (t : ℕ) → 1 ≤ t → t ≤ length ys.terms → (names_nil (one_link (xs ++ map (raised_entry n) ys.terms)) (n + t) ≡ names_nil ys t)
          × (argument_of ys t ≡ 0 → argument_of (one_link (xs ++ map (raised_entry n) ys.terms)) (n + t) ≡ 0)
          × (1 ≤ argument_of ys t → argument_of (one_link (xs ++ map (raised_entry n) ys.terms)) (n + t) ≡ n + argument_of ys t)
      each t l u =
          ⊎_elim
          (λ z. let r = of_variable t l u z in (r.0, λ w. r.2, λ w. absurd (omega (arith, r.1))))
          (λ z.
          ⊎_elim
          (λ y. let r = of_nil t l u y in (r.0, λ w. r.2, λ w. absurd (omega (arith, r.1))))
          (λ y. let r = of_argument t l u z.0 y.0 in (r.0, λ w. absurd (z.0 (sym r.1 ∙ w)), λ w. r.2 ∙ ap (λ (k : ℕ). n + k) (sym r.1)))
          (eq_cases (entry_of ys t) 255))
          (eq_cases (entry_of ys t) 0)

-- every term of the whole is the first's or the second's
pub whose : (n m t : ℕ) → 1 ≤ t → t ≤ n + m → (t ≤ n) ⊎ ((u : ℕ) × (t ≡ n + u) × (1 ≤ u) × (u ≤ m))
whose n m t l u = ⊎_elim (λ h. inl h) (λ h. inr (t - n, omega arith, omega arith, omega arith)) (le_cases t n)
