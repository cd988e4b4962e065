-- A path is a quotient of another: its facts are just the other's, read through a map of terms that takes each live term to the lowest
-- of its class. Joining makes quotients; where two quotients of one path put the same terms together, they are the same facts.
use Prim.Native.Nat.{ℕ, ◌≤◌, ◌<◌}
use native.Mathlib.Omega.{arith}
use mathlib.Core.Path.{◌≡◌, refl, sym, ap, ◌∙◌, subst, fun_ext}
use mathlib.Core.Logic.{⊎_elim}
use mathlib.Core.Bool.{Bool, true, false}
use Rattle.logic.specs.Facts.{Facts, live, replace}
use Rattle.theory.proofs.Basics.Search.{bool_cases, true-false, not_of}
use Rattle.theory.proofs.Basics.Compare.{eq_cases}
use Rattle.theory.proofs.Paths.Replace.{sub, sub_hit, sub_miss, replace_in-true, replace_in_intro}
use Rattle.theory.proofs.Paths.Ranged.{live-rep, replace-live-sub, replace-not-live}

-- the facts R of a relation, read through g
abbrev pub Mapped : (ℕ → ℕ) → (ℕ → ℕ → Bool) → ℕ → ℕ → Type 0
Mapped g R a b = (x : ℕ) × (y : ℕ) × (R x y ≡ true) × (g x ≡ a) × (g y ≡ b)

module _ (n : ℕ) where
  pub record Quotient (s s' : Facts) : Type 0 where
    pub class : ℕ → ℕ
    pub rep_class : (t : ℕ) → s'.rep t ≡ class (s.rep t)
    pub same_links : s'.links ≡ s.links
    pub link_held : (i a b : ℕ) → (s.graph i).link a b ≡ true → (s'.graph i).link (class a) (class b) ≡ true
    pub link_from : (i a b : ℕ) → (s'.graph i).link a b ≡ true → Mapped class (s.graph i).link a b
    pub reach_held : (i a b : ℕ) → (s.graph i).reach a b ≡ true → (s'.graph i).reach (class a) (class b) ≡ true
    pub reach_from : (i a b : ℕ) → (s'.graph i).reach a b ≡ true → Mapped class (s.graph i).reach a b
    pub class_live : (t : ℕ) → live n s t ≡ true → live n s' (class t) ≡ true
    pub live_class : (t : ℕ) → live n s' t ≡ true → (live n s t ≡ true) × (class t ≡ t)
    pub others_stay : (t : ℕ) → live n s t ≡ false → class t ≡ t
    pub class_lower : (t : ℕ) → class t ≤ t

  unfoldable pub quotient_refl : (s : Facts) → Quotient s s
  quotient_refl s =
      record {
        class = λ t. t;
        rep_class = λ t. refl;
        same_links = refl;
        link_held = λ i a b h. h;
        link_from = λ i a b h. (a, b, h, refl, refl);
        reach_held = λ i a b h. h;
        reach_from = λ i a b h. (a, b, h, refl, refl);
        class_live = λ t h. h;
        live_class = λ t h. (h, refl);
        others_stay = λ t h. refl;
        class_lower = λ t. omega arith;
      }

  -- a fact that is read through two maps
  pub mapped_trans : (g g' : ℕ → ℕ) (R R' : ℕ → ℕ → Bool) → ((a b : ℕ) → R' a b ≡ true → Mapped g R a b) → (a b : ℕ) → Mapped g' R' a b → Mapped (λ t. g' (g t)) R a b
  mapped_trans g g' R R' back a b m =
      let k = back m.0 m.1 m.2 in
      (k.0, k.1, k.2, ap g' k.3 ∙ m.3, ap g' k.4 ∙ m.4)

  unfoldable pub quotient_trans : {s s' s'' : Facts} → Quotient s s' → Quotient s' s'' → Quotient s s''
  quotient_trans {s} {s'} {s''} p p' =
      record {
        class = λ t. p'.class (p.class t);
        rep_class = λ t. p'.rep_class t ∙ ap p'.class (p.rep_class t);
        same_links = p'.same_links ∙ p.same_links;
        link_held = λ i a b h. p'.link_held i _ _ (p.link_held i a b h);
        link_from = λ i a b h. mapped_trans p.class p'.class (s.graph i).link (s'.graph i).link (p.link_from i) a b (p'.link_from i a b h);
        reach_held = λ i a b h. p'.reach_held i _ _ (p.reach_held i a b h);
        reach_from = λ i a b h. mapped_trans p.class p'.class (s.graph i).reach (s'.graph i).reach (p.reach_from i) a b (p'.reach_from i a b h);
        class_live = λ t h. p'.class_live _ (p.class_live t h);
        live_class = λ t h.
            let l' = p'.live_class t h in
            let l = p.live_class t l'.0 in
            (l.0, ap p'.class l.1 ∙ l'.1);
        others_stay = λ t h.
            let e = p.others_stay t h in
            ap p'.class e ∙ p'.others_stay t (not_of (λ l. true-false (p.live_class t l).0 h));
        class_lower = λ t. let a = p.class_lower t in let b = p'.class_lower (p.class t) in omega arith;
      }

  -- replacing a live term by a lower one is a quotient
  unfoldable pub quotient_replace : (lo hi : ℕ) (s : Facts) → live n s lo ≡ true → live n s hi ≡ true → lo < hi → Quotient s (replace lo hi s)
  unfolding replace sub
  quotient_replace lo hi s llo lhi lt =
      record {
        class = sub lo hi;
        rep_class = λ t. refl;
        same_links = refl;
        link_held = λ i a b h. replace_in_intro lo hi (s.graph i).link apart a b h;
        link_from = λ i a b h. replace_in-true lo hi (s.graph i).link a b h;
        reach_held = λ i a b h. replace_in_intro lo hi (s.graph i).reach apart a b h;
        reach_from = λ i a b h. replace_in-true lo hi (s.graph i).reach a b h;
        class_live = λ t h. replace-live-sub n lo hi s llo lhi apart t h;
        live_class = λ t h. let r = replace-not-live n lo hi s llo lhi apart t h in (r.0, sub_miss lo hi t r.1);
        others_stay = λ t h. sub_miss lo hi t (λ e. true-false (subst (λ (u : ℕ). live n s u ≡ true) (sym e) lhi) h);
        class_lower = λ t. ⊎_elim (λ e. let f = ap (sub lo hi) e ∙ sub_hit lo hi in omega arith) (λ p. let f = sub_miss lo hi t p.0 in omega arith) (eq_cases t hi);
      }
    where
      apart : lo ≡ hi → ⊥
      apart e = omega arith

  -- where a live term goes is what it was replaced by
  pub class-rep : {s s' : Facts} (p : Quotient s s') (x : ℕ) → live n s x ≡ true → p.class x ≡ s'.rep x
  class-rep {s} p x h = ap p.class (sym (live-rep n s x h)) ∙ sym (p.rep_class x)

  -- Two quotients of one path, the second of which puts together all that the first does
  module _ {s s₁ s₂ : Facts} (p : Quotient s s₁) (p' : Quotient s s₂) (same : (x y : ℕ) → live n s x ≡ true → live n s y ≡ true → p.class x ≡ p.class y → p'.class x ≡ p'.class y) where
    -- the second takes no live term higher
    pub class_below : (x : ℕ) → live n s x ≡ true → p'.class x ≤ p.class x
    class_below x h =
        let l = p.live_class (p.class x) (p.class_live x h) in
        let e = same (p.class x) x l.0 h l.1 in
        let b = p'.class_lower (p.class x) in
        omega arith

  module _ {s s₁ s₂ : Facts} (p : Quotient s s₁) (p' : Quotient s s₂)
      (same : (x y : ℕ) → live n s x ≡ true → live n s y ≡ true → p.class x ≡ p.class y → p'.class x ≡ p'.class y)
      (back : (x y : ℕ) → live n s x ≡ true → live n s y ≡ true → p'.class x ≡ p'.class y → p.class x ≡ p.class y) where
    pub class_same : (x : ℕ) → p.class x ≡ p'.class x
    class_same x =
        ⊎_elim
        (λ h. let a = class_below p p' same x h in let b = class_below p' p back x h in omega arith)
        (λ h. p.others_stay x h ∙ sym (p'.others_stay x h))
        (bool_cases (live n s x))

-- the path that these functions make
abbrev made : (ℕ → ℕ) → ℕ → (ℕ → ℕ → ℕ → Bool) → (ℕ → ℕ → ℕ → Bool) → Facts
made rep links link reach = record { rep = rep; links = links; graph = λ i. record { link = link i; reach = reach i } }

-- two paths are one where they answer alike
pub alike : (s s' : Facts) → ((t : ℕ) → s.rep t ≡ s'.rep t) → s.links ≡ s'.links → ((i a b : ℕ) → (s.graph i).link a b ≡ (s'.graph i).link a b) →
    ((i a b : ℕ) → (s.graph i).reach a b ≡ (s'.graph i).reach a b) → s ≡ s'
alike s s' e k f g = λ i. made (fun_ext e i) (k i) (fun_ext (λ j. fun_ext (λ a. fun_ext (f j a))) i) (fun_ext (λ j. fun_ext (λ a. fun_ext (g j a))) i)

-- tests that pass alike are equal
pub test_same : (b c : Bool) → (b ≡ true → c ≡ true) → (c ≡ true → b ≡ true) → b ≡ c
test_same true c f g = sym (f refl)
test_same false c f g = sym (not_of (λ e. true-false (g e) refl))

-- a relation that is just R read through one map is one that is just R read through another that does the same
relation_within : (f g : ℕ → ℕ) → ((x : ℕ) → f x ≡ g x) → (R R₁ R₂ : ℕ → ℕ → Bool) → ((a b : ℕ) → R₁ a b ≡ true → Mapped f R a b) →
    ((a b : ℕ) → R a b ≡ true → R₂ (g a) (g b) ≡ true) → (a b : ℕ) → R₁ a b ≡ true → R₂ a b ≡ true
relation_within f g e R R₁ R₂ from held a b h =
    let m = from a b h in
    subst (λ (x : ℕ). R₂ x b ≡ true) (sym (e m.0) ∙ m.3) (subst (λ (y : ℕ). R₂ (g m.0) y ≡ true) (sym (e m.1) ∙ m.4) (held m.0 m.1 m.2))

-- two relations that are just R, read through maps that do the same, are one
relation_same : (f g : ℕ → ℕ) → ((x : ℕ) → f x ≡ g x) → (R R₁ R₂ : ℕ → ℕ → Bool) → ((a b : ℕ) → R₁ a b ≡ true → Mapped f R a b) →
    ((a b : ℕ) → R a b ≡ true → R₁ (f a) (f b) ≡ true) → ((a b : ℕ) → R₂ a b ≡ true → Mapped g R a b) →
    ((a b : ℕ) → R a b ≡ true → R₂ (g a) (g b) ≡ true) → (a b : ℕ) → R₁ a b ≡ R₂ a b
relation_same f g e R R₁ R₂ from held from' held' a b =
    test_same (R₁ a b) (R₂ a b) (relation_within f g e R R₁ R₂ from held' a b) (relation_within g f (λ x. sym (e x)) R R₂ R₁ from' held a b)

-- Two quotients of one path that put the same live terms together are the same facts.
pub quotient_unique : (n : ℕ) {s s₁ s₂ : Facts} (p : Quotient n s s₁) (p' : Quotient n s s₂) →
    ((x y : ℕ) → live n s x ≡ true → live n s y ≡ true → p.class x ≡ p.class y → p'.class x ≡ p'.class y) →
    ((x y : ℕ) → live n s x ≡ true → live n s y ≡ true → p'.class x ≡ p'.class y → p.class x ≡ p.class y) → s₁ ≡ s₂
quotient_unique n {s} {s₁} {s₂} p p' same back =
    alike s₁ s₂
    (λ t. p.rep_class t ∙ e (s.rep t) ∙ sym (p'.rep_class t))
    (p.same_links ∙ sym p'.same_links)
    (λ i. relation_same p.class p'.class e (s.graph i).link (s₁.graph i).link (s₂.graph i).link (p.link_from i) (p.link_held i) (p'.link_from i) (p'.link_held i))
    (λ i. relation_same p.class p'.class e (s.graph i).reach (s₁.graph i).reach (s₂.graph i).reach (p.reach_from i) (p.reach_held i) (p'.reach_from i) (p'.reach_held i))
  where
    e : (x : ℕ) → p.class x ≡ p'.class x
    e = class_same n p p' same back
