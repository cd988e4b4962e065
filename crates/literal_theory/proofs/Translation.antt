-- What a formula says at a point of the path, its translation says in the heap with cut links: if the nodes at which `forall`s fail are chosen so; and
-- whatever is chosen for them, the formula says what the translation does.
use Prim.Native.Nat.{ℕ}
use mathlib.Core.Path.{◌≡◌, refl, sym, ap, ◌∙◌}
use mathlib.Core.Logic.{◌⊎◌, ⊎_elim}
use mathlib.Core.Bool.{Bool, true, false, not, cond, false≢true}
use mathlib.Core.List.Memᴰ
use mathlib.Core.List.{List, [], ◌∷◌, ◌++◌, map, Memᴰ}
use Rattle.logic.specs.Search.{◌and◌, ◌or◌}
use Rattle.logic.specs.Heap.{Node}
use Rattle.theory.proofs.Basics.Search.{and_left, and_right, and_intro, and-false_cases, or_cases, or_left, or_right, neither, true-false, not-true, not_intro, not_of}
use Rattle.routine_logic.specs.Syntax.{Formula, always, never, equal, unequal, reaches, between, flag, negation, both, either, implies, same, forall}
use Rattle.routine_logic.specs.State.{State}
use Rattle.routine_logic.specs.Formulas.{Bound, holds, same_truth}
use Rattle.routine_theory.proofs.Means.{forall_means}
use Rattle.cut_theory.proofs.Jumps.{IsCut}
use Rattle.path_theory.specs.Points.{Point, state_at}
use Rattle.path_theory.specs.Assignments.{Begins}
use Rattle.literal_theory.specs.Labels.{Label, label_node, Plan, cut_names}
use Rattle.literal_theory.specs.Forms.{Form, junction, meets_form}
use Rattle.literal_theory.specs.Heaps.{cut_node, cut_heap}
use Rattle.literal_theory.specs.Translation.{Places, left, right, translate, Cut, betweens, plainly}
use Rattle.literal_theory.proofs.Literals.{truth_not, same_truth_lem, not-not}
use Rattle.literal_theory.proofs.Witnesses.{failing, witness, failing_fails}
use Rattle.literal_theory.proofs.Atoms.{Ground, label-node, equal_atom, unequal_atom, reaches_atom, between_atom, flag_atom}

-- Truth of the parts and of the whole

both_parts : (b x y f g : Bool) → (same_truth b x ≡ true → f ≡ true) → (same_truth b y ≡ true → g ≡ true) → same_truth b (x and y) ≡ true → cond b (f and g) (f or g) ≡ true
unfolding same_truth
both_parts true x y f g h k e = and_intro (h (and_left x y e)) (k (and_right x y e))
both_parts false x y f g h k e = ⊎_elim (λ z. or_left g (h (not_intro z))) (λ z. or_right f (k (not_intro z))) (and-false_cases x y (not-true e))

both_whole : (b x y f g : Bool) → (f ≡ true → same_truth b x ≡ true) → (g ≡ true → same_truth b y ≡ true) → cond b (f and g) (f or g) ≡ true → same_truth b (x and y) ≡ true
unfolding same_truth
both_whole true x y f g h k e = and_intro (h (and_left f g e)) (k (and_right f g e))
both_whole false x y f g h k e =
    not_intro (not_of (λ z. ⊎_elim (λ q. true-false (and_left x y z) (not-true (h q))) (λ q. true-false (and_right x y z) (not-true (k q))) (or_cases f g e)))

either_parts : (b x y f g : Bool) → (same_truth b x ≡ true → f ≡ true) → (same_truth b y ≡ true → g ≡ true) → same_truth b (x or y) ≡ true → cond (not b) (f and g) (f or g) ≡ true
unfolding same_truth
either_parts true x y f g h k e = ⊎_elim (λ z. or_left g (h z)) (λ z. or_right f (k z)) (or_cases x y e)
either_parts false x y f g h k e = let n = neither x y (not-true e) in and_intro (h (not_intro n.0)) (k (not_intro n.1))

either_whole : (b x y f g : Bool) → (f ≡ true → same_truth b x ≡ true) → (g ≡ true → same_truth b y ≡ true) → cond (not b) (f and g) (f or g) ≡ true → same_truth b (x or y) ≡ true
unfolding same_truth
either_whole true x y f g h k e = ⊎_elim (λ z. or_left y (h z)) (λ z. or_right x (k z)) (or_cases f g e)
either_whole false x y f g h k e =
    not_intro (not_of (λ z. ⊎_elim (λ q. true-false q (not-true (h (and_left f g e)))) (λ q. true-false q (not-true (k (and_right f g e)))) (or_cases x y z)))

same_parts : (b x y f g f' g' : Bool) → (same_truth true x ≡ true → f ≡ true) → (same_truth b y ≡ true → g ≡ true) →
    (same_truth false x ≡ true → f' ≡ true) → (same_truth (not b) y ≡ true → g' ≡ true) → same_truth b (same_truth x y) ≡ true → f and g or (f' and g') ≡ true
unfolding same_truth
same_parts b true y f g f' g' h k h' k' e = or_left (f' and g') (and_intro (h refl) (k e))
same_parts b false y f g f' g' h k h' k' e = or_right (f and g) (and_intro (h' refl) (k' (truth_not b y ∙ e)))

same_whole : (b x y f g f' g' : Bool) → (f ≡ true → same_truth true x ≡ true) → (g ≡ true → same_truth b y ≡ true) →
    (f' ≡ true → same_truth false x ≡ true) → (g' ≡ true → same_truth (not b) y ≡ true) → f and g or (f' and g') ≡ true → same_truth b (same_truth x y) ≡ true
unfolding same_truth
same_whole b x y f g f' g' h k h' k' e =
    ⊎_elim
    (λ z. let q : x ≡ true = h (and_left f g z) in ap (λ (v : Bool). same_truth b (same_truth v y)) q ∙ k (and_right f g z))
    (λ z. let q : x ≡ false = not-true (h' (and_left f' g' z)) in ap (λ (v : Bool). same_truth b (same_truth v y)) q ∙ sym (truth_not b y) ∙ k' (and_right f' g' z))
    (or_cases (f and g) (f' and g') e)

module _ (s : State) (nodes : List ℕ) (picks : ℕ → List Bool → ℕ) (ground : Ground s nodes picks) (P : Plan) (names : ℕ → ℕ) (name_nodes : (n : ℕ) → Node s (names n)) where
  abbrev label : Label → ℕ
  label = label_node s nodes picks

  abbrev says : Form Label → Bool
  says = meets_form (cut_heap P label s names) s nodes label

  -- the betweens of a formula are cut
  abbrev pub Covered : List Cut → Type 0
  Covered cs = (c : Cut) → Memᴰ c cs → IsCut (cut_node P label c.link) (cut_names P c.link).number (label c.label)

  junction-says : (b : Bool) (f g : Form Label) → says (junction b f g) ≡ cond b (says f and says g) (says f or says g)
  unfolding junction meets_form
  junction-says true f g = refl
  junction-says false f g = refl

  first_part : (cs ds : List Cut) → Covered (cs ++ ds) → Covered cs
  first_part cs ds h c m = h c (Memᴰ.append_left ds m)

  second_part : (cs ds : List Cut) → Covered (cs ++ ds) → Covered ds
  second_part cs ds h c m = h c (Memᴰ.append_right cs m)

  module _ (p : Point) (on_path : (i : ℕ) → Begins (p.stores i) (P.stores i)) where
    abbrev here : State
    here = state_at s nodes p

    -- Labels by place suit a formula: where a `forall` is denied, its label stands for the node at which it fails.
    unfoldable pub Suits : Bool → Places → Bound → Formula → Type 0
    Suits b name v always = Unit
    Suits b name v never = Unit
    Suits b name v (equal t u) = Unit
    Suits b name v (unequal t u) = Unit
    Suits b name v (reaches i t u) = Unit
    Suits b name v (between i t u z) = Unit
    Suits b name v (flag j t) = Unit
    Suits b name v (negation f) = Suits (not b) name v f
    Suits b name v (both f g) = Suits b (left name) v f × Suits b (right name) v g
    Suits b name v (either f g) = Suits b (left name) v f × Suits b (right name) v g
    Suits b name v (implies f g) = Suits (not b) (left name) v f × Suits b (right name) v g
    Suits b name v (same f g) = (Suits true (left name) v f × Suits b (right name) v g) × (Suits false (left name) v f × Suits (not b) (right name) v g)
    Suits true name v (forall f) = Unit
    Suits false name v (forall f) = (label (name []) ≡ failing here v f) × Suits false (left name) (failing here v f ∷ v) f

    -- the nodes at which `forall`s fail suit
    abbrev pub Chosen : Places → Bound → Formula → Type 0
    Chosen name v f = (d : List Bool) → label (name d) ≡ witness here v f d

    pub chosen_suits : (b : Bool) (name : Places) (v : Bound) (f : Formula) → Chosen name v f → Suits b name v f
    unfolding Suits witness
    chosen_suits b name v always w = tt
    chosen_suits b name v never w = tt
    chosen_suits b name v (equal t u) w = tt
    chosen_suits b name v (unequal t u) w = tt
    chosen_suits b name v (reaches i t u) w = tt
    chosen_suits b name v (between i t u z) w = tt
    chosen_suits b name v (flag j t) w = tt
    chosen_suits b name v (negation f) w = chosen_suits (not b) name v f w
    chosen_suits b name v (both f g) w = (chosen_suits b (left name) v f (λ d. w (false ∷ d)), chosen_suits b (right name) v g (λ d. w (true ∷ d)))
    chosen_suits b name v (either f g) w = (chosen_suits b (left name) v f (λ d. w (false ∷ d)), chosen_suits b (right name) v g (λ d. w (true ∷ d)))
    chosen_suits b name v (implies f g) w = (chosen_suits (not b) (left name) v f (λ d. w (false ∷ d)), chosen_suits b (right name) v g (λ d. w (true ∷ d)))
    chosen_suits b name v (same f g) w = (
      (chosen_suits true (left name) v f (λ d. w (false ∷ d)), chosen_suits b (right name) v g (λ d. w (true ∷ d))),
      (chosen_suits false (left name) v f (λ d. w (false ∷ d)), chosen_suits (not b) (right name) v g (λ d. w (true ∷ d))),
    )
    chosen_suits true name v (forall f) w = tt
    chosen_suits false name v (forall f) w = (w [], chosen_suits false (left name) (failing here v f ∷ v) f (λ d. w (false ∷ d)))

    -- where no `forall` is denied, any labels suit
    pub plain_suits : (b : Bool) (name : Places) (v : Bound) (f : Formula) → plainly b f ≡ true → Suits b name v f
    unfolding Suits plainly
    plain_suits b name v always h = tt
    plain_suits b name v never h = tt
    plain_suits b name v (equal t u) h = tt
    plain_suits b name v (unequal t u) h = tt
    plain_suits b name v (reaches i t u) h = tt
    plain_suits b name v (between i t u z) h = tt
    plain_suits b name v (flag j t) h = tt
    plain_suits b name v (negation f) h = plain_suits (not b) name v f h
    plain_suits b name v (both f g) h = (plain_suits b (left name) v f (and_left _ _ h), plain_suits b (right name) v g (and_right (plainly b f) _ h))
    plain_suits b name v (either f g) h = (plain_suits b (left name) v f (and_left _ _ h), plain_suits b (right name) v g (and_right (plainly b f) _ h))
    plain_suits b name v (implies f g) h = (plain_suits (not b) (left name) v f (and_left _ _ h), plain_suits b (right name) v g (and_right (plainly (not b) f) _ h))
    plain_suits b name v (same f g) h =
        let hf = and_left (plainly true f and plainly false f) _ h in
        let hg = and_right (plainly true f and plainly false f) (plainly b g and plainly (not b) g) h in (
          (plain_suits true (left name) v f (and_left _ _ hf), plain_suits b (right name) v g (and_left _ _ hg)),
          (plain_suits false (left name) v f (and_right (plainly true f) _ hf), plain_suits (not b) (right name) v g (and_right (plainly b g) _ hg)),
        )
    plain_suits true name v (forall f) h = tt
    plain_suits false name v (forall f) h = absurd (false≢true (and_left _ _ h))

    pub translate_sound : (b : Bool) (name : Places) (e : List Label) (v : Bound) (f : Formula) → map label e ≡ v → Covered (betweens b p name e f) →
        Suits b name v f → same_truth b (holds here v f) ≡ true → says (translate P b p name e f) ≡ true
    unfolding translate betweens holds meets_form Suits
    translate_sound b name e v always q c w h = sym ((same_truth_lem b true).0 h)
    translate_sound b name e v never q c w h = ap not (sym ((same_truth_lem b false).0 h))
    translate_sound b name e v (equal t u) q c w h = equal_atom s nodes picks ground P names name_nodes p on_path e b t u ∙ ap (λ (z : Bound). same_truth b (holds here z (equal t u))) q ∙ h
    translate_sound b name e v (unequal t u) q c w h =
        unequal_atom s nodes picks ground P names name_nodes p on_path e b t u ∙ ap (λ (z : Bound). same_truth b (holds here z (unequal t u))) q ∙ h
    translate_sound b name e v (reaches i t u) q c w h =
        reaches_atom s nodes picks ground P names name_nodes p on_path e b i t u ∙ ap (λ (z : Bound). same_truth b (holds here z (reaches i t u))) q ∙ h
    translate_sound b name e v (between i t u z) q c w h =
        between_atom s nodes picks ground P names name_nodes p on_path e b i t u z (c _ (Memᴰ.head refl)) ∙ ap (λ (y : Bound). same_truth b (holds here y (between i t u z))) q ∙ h
    translate_sound b name e v (flag j t) q c w h =
        flag_atom s nodes picks ground P names name_nodes p on_path e b j t ∙ ap (λ (z : Bound). same_truth b (holds here z (flag j t))) q ∙ h
    translate_sound b name e v (negation f) q c w h = translate_sound (not b) name e v f q c w (truth_not b (holds here v f) ∙ h)
    translate_sound b name e v (both f g) q c w h =
        junction-says b (translate P b p (left name) e f) (translate P b p (right name) e g)
        ∙ both_parts b (holds here v f) (holds here v g) _ _
        (translate_sound b (left name) e v f q (first_part (betweens b p (left name) e f) _ c) w.0)
        (translate_sound b (right name) e v g q (second_part (betweens b p (left name) e f) _ c) w.1) h
    translate_sound b name e v (either f g) q c w h =
        junction-says (not b) (translate P b p (left name) e f) (translate P b p (right name) e g)
        ∙ either_parts b (holds here v f) (holds here v g) _ _
        (translate_sound b (left name) e v f q (first_part (betweens b p (left name) e f) _ c) w.0)
        (translate_sound b (right name) e v g q (second_part (betweens b p (left name) e f) _ c) w.1) h
    translate_sound b name e v (implies f g) q c w h =
        junction-says (not b) (translate P (not b) p (left name) e f) (translate P b p (right name) e g)
        ∙ either_parts b (not (holds here v f)) (holds here v g) _ _
        (λ k. translate_sound (not b) (left name) e v f q (first_part (betweens (not b) p (left name) e f) _ c) w.0 (truth_not b (holds here v f) ∙ k))
        (translate_sound b (right name) e v g q (second_part (betweens (not b) p (left name) e f) _ c) w.1) h
    translate_sound b name e v (same f g) q c w h =
        let yes_part = first_part (betweens true p (left name) e f ++ betweens b p (right name) e g) _ c in
        let no_part = second_part (betweens true p (left name) e f ++ betweens b p (right name) e g) _ c in
        same_parts b (holds here v f) (holds here v g) _ _ _ _
        (translate_sound true (left name) e v f q (first_part (betweens true p (left name) e f) _ yes_part) w.0.0)
        (translate_sound b (right name) e v g q (second_part (betweens true p (left name) e f) _ yes_part) w.0.1)
        (translate_sound false (left name) e v f q (first_part (betweens false p (left name) e f) _ no_part) w.1.0)
        (translate_sound (not b) (right name) e v g q (second_part (betweens false p (left name) e f) _ no_part) w.1.1) h
    translate_sound true name e v (forall f) q c w h = ap (λ (z : Bound). holds here z (forall f)) q ∙ (same_truth_lem true _).0 h
    translate_sound false name e v (forall f) q c w h =
        translate_sound false (left name) (name [] ∷ e) (failing here v f ∷ v) f
        (ap (λ (x : ℕ). x ∷ map label e) w.0 ∙ ap (λ (z : Bound). failing here v f ∷ z) q) c w.1
        ((same_truth_lem false _).1 (failing_fails here v f ((same_truth_lem false _).0 h)))

    pub translate_complete : (b : Bool) (name : Places) (e : List Label) (f : Formula) → Covered (betweens b p name e f) →
        says (translate P b p name e f) ≡ true → same_truth b (holds here (map label e) f) ≡ true
    unfolding translate betweens holds meets_form
    translate_complete b name e always c h = (same_truth_lem b true).1 (sym h)
    translate_complete b name e never c h = (same_truth_lem b false).1 (sym (ap not h) ∙ not-not b)
    translate_complete b name e (equal t u) c h = sym (equal_atom s nodes picks ground P names name_nodes p on_path e b t u) ∙ h
    translate_complete b name e (unequal t u) c h = sym (unequal_atom s nodes picks ground P names name_nodes p on_path e b t u) ∙ h
    translate_complete b name e (reaches i t u) c h = sym (reaches_atom s nodes picks ground P names name_nodes p on_path e b i t u) ∙ h
    translate_complete b name e (between i t u z) c h =
        sym (between_atom s nodes picks ground P names name_nodes p on_path e b i t u z (c _ (Memᴰ.head refl))) ∙ h
    translate_complete b name e (flag j t) c h = sym (flag_atom s nodes picks ground P names name_nodes p on_path e b j t) ∙ h
    translate_complete b name e (negation f) c h = sym (truth_not b (holds here (map label e) f)) ∙ translate_complete (not b) name e f c h
    translate_complete b name e (both f g) c h =
        both_whole b (holds here (map label e) f) (holds here (map label e) g) _ _
        (translate_complete b (left name) e f (first_part (betweens b p (left name) e f) _ c))
        (translate_complete b (right name) e g (second_part (betweens b p (left name) e f) _ c))
        (sym (junction-says b (translate P b p (left name) e f) (translate P b p (right name) e g)) ∙ h)
    translate_complete b name e (either f g) c h =
        either_whole b (holds here (map label e) f) (holds here (map label e) g) _ _
        (translate_complete b (left name) e f (first_part (betweens b p (left name) e f) _ c))
        (translate_complete b (right name) e g (second_part (betweens b p (left name) e f) _ c))
        (sym (junction-says (not b) (translate P b p (left name) e f) (translate P b p (right name) e g)) ∙ h)
    translate_complete b name e (implies f g) c h =
        either_whole b (not (holds here (map label e) f)) (holds here (map label e) g) _ _
        (λ k. sym (truth_not b (holds here (map label e) f)) ∙ translate_complete (not b) (left name) e f (first_part (betweens (not b) p (left name) e f) _ c) k)
        (translate_complete b (right name) e g (second_part (betweens (not b) p (left name) e f) _ c))
        (sym (junction-says (not b) (translate P (not b) p (left name) e f) (translate P b p (right name) e g)) ∙ h)
    translate_complete b name e (same f g) c h =
        let yes_part = first_part (betweens true p (left name) e f ++ betweens b p (right name) e g) _ c in
        let no_part = second_part (betweens true p (left name) e f ++ betweens b p (right name) e g) _ c in
        same_whole b (holds here (map label e) f) (holds here (map label e) g) _ _ _ _
        (translate_complete true (left name) e f (first_part (betweens true p (left name) e f) _ yes_part))
        (translate_complete b (right name) e g (second_part (betweens true p (left name) e f) _ yes_part))
        (translate_complete false (left name) e f (first_part (betweens false p (left name) e f) _ no_part))
        (translate_complete (not b) (right name) e g (second_part (betweens false p (left name) e f) _ no_part)) h
    translate_complete true name e (forall f) c h = (same_truth_lem true _).1 h
    translate_complete false name e (forall f) c h =
        (same_truth_lem false _).1 (not_of (λ z. true-false ((forall_means here (map label e) f).0 z (label (name [])) (at_node (name [])))
        ((same_truth_lem false _).0 (translate_complete false (left name) (name [] ∷ e) f c h))))
      where
        at_node : (l : Label) → Node here (label l)
        at_node l = unfold state_at in label-node s nodes picks ground P l
