-- One byte stored is one node or one flag more, and nothing else.
use Prim.Native.Nat.{ℕ, ◌+◌, ◌*◌, ◌%◌, ◌≤◌, ◌<◌}
use native.Mathlib.Omega.{arith}
use native.Mathlib.Decide.{ℕ_discrete}
use borrow.Author.Tests.{eq-eqb, ne_eqb, le-ltb, ltb-false}
use mathlib.Core.Path.{◌≡◌, refl, ap, ◌∙◌, fun_ext}
use mathlib.Core.Bool.{Bool, true, false, cond}
use mathlib.Core.List.{List}
use lib.ListN.{length, get_or, set}
use lib.Seq.{get_or-set_same, get_or-set_other}
use lib.Dec.{eqb, ltb}
use mir.Val.{bool_byte}
use Rattle.logic.specs.Search.{◌and◌}
use Rattle.routine_logic.specs.State.{State, changed, changed_at, with_variable, with_link, with_flag}
use Rattle.routine_state.specs.States.{node_in, in_rows, link_in, flag_in, variable_in, state_in, flag_byte}
use Rattle.routine_state.proofs.Laws.{row_here}

-- what is asked only where a test fails
cond_same : {A : Type 0} (b : Bool) (z x y : A) → (b ≡ false → x ≡ y) → cond b z x ≡ cond b z y
cond_same true z x y h = refl
cond_same false z x y h = h refl

rows_same : {A : Type 0} (most i v : ℕ) (other a b : A) → (i ≤ most → v ≤ 31 → a ≡ b) → in_rows most i v other a ≡ in_rows most i v other b
unfolding in_rows
rows_same most i v other a b h =
    cond_same (ltb most i) other _ _ (λ e. cond_same (ltb 31 v) other a b (λ f. h (ltb-false most i e) (ltb-false 31 v f)))

state_same : (m n : ℕ) (k l : ℕ → ℕ → ℕ) (f g : ℕ → ℕ → Bool) (x y : ℕ → ℕ) → m ≡ n → k ≡ l → f ≡ g → x ≡ y → ◌≡◌ {A = State} (record { size = m; link = k; field = f; variable = x })
    (record { size = n; link = l; field = g; variable = y })
state_same m n k l f g x y p q r s = λ i. record { size = p i; link = q i; field = r i; variable = s i }

-- a place of a pair of numbers: it is the pair that is changed, or another place
at_other : {A : Type 0} (g : ℕ → ℕ → A) (i x j y : ℕ) (a b : A) → ((j ≡ i) × (y ≡ x) → b ≡ a) → (((j ≡ i) × (y ≡ x) → ⊥) → b ≡ g j y) → b ≡ changed_at g i x a j y
unfolding changed_at ◌and◌
at_other g i x j y a b same other = elim (ℕ_discrete j i) [
  | yes p ↦ elim (ℕ_discrete y x) [
    | yes q ↦ rw (eq-eqb j i p, eq-eqb y x q) (same (p, q))
    | no q ↦ rw (eq-eqb j i p, ne_eqb y x q) (other (λ h. q h.1))
  ]
  | no p ↦ rw (ne_eqb j i p) (other (λ h. p h.0))
]

flag_back : (f : Bool) → eqb (flag_byte f) 1 ≡ f
flag_back true = refl
flag_back false = refl

-- the byte that the code makes of a flag
pub byte_of_flag : (f : Bool) (w : ℕ) → w ≡ bool_byte f → w ≡ flag_byte f
byte_of_flag true w e = e
byte_of_flag false w e = e

module _ (bytes : List ℕ) where
  -- a store behind the links, before or behind the flags, before the variables, and not of the size
  links-same : (p w : ℕ) → 128 ≤ p → link_in (set bytes p w) ≡ link_in bytes
  unfolding link_in
  links-same p w h = fun_ext λ i. fun_ext λ v. rows_same 3 i v 1 _ _ (λ a b. ap (λ (x : ℕ). x % 32) (get_or-set_other bytes p (32 * i + v) w 0 (λ e. absurd (omega (arith, a, b, h, e)))))

  flags_same : (p w : ℕ) → ((j v : ℕ) → j ≤ 8 → v ≤ 31 → 128 + 32 * j + v ≡ p → ⊥) → flag_in (set bytes p w) ≡ flag_in bytes
  unfolding flag_in
  flags_same p w h = fun_ext λ j. fun_ext λ v. rows_same 8 j v false _ _ (λ a b. ap (λ (x : ℕ). eqb x 1) (get_or-set_other bytes p (128 + 32 * j + v) w 0 (h j v a b)))

  variables_same : (p w : ℕ) → p < 416 → variable_in (set bytes p w) ≡ variable_in bytes
  unfolding variable_in
  variables_same p w h = fun_ext λ x. ap (λ (v : ℕ). cond (ltb 31 x) 1 v) (ap (λ (v : ℕ). v % 32) (get_or-set_other bytes p (416 + x) w 0 (λ e. absurd (omega (arith, h, e)))))

  size_same : (p w : ℕ) → p < 448 → node_in (set bytes p w) 448 ≡ node_in bytes 448
  size_same p w h = ap (λ (v : ℕ). v % 32) (get_or-set_other bytes p 448 w 0 (λ e. absurd (omega (arith, h, e))))

  -- the node or flag itself
  stored_node : (p w : ℕ) → p < length bytes → w ≤ 31 → node_in (set bytes p w) p ≡ w
  stored_node p w h k = ap (λ (v : ℕ). v % 32) (get_or-set_same bytes p w 0 h) ∙ omega (arith, k)

  module _ (long : 449 ≤ length bytes) where
    variable_change : (x v : ℕ) → x ≤ 31 → v ≤ 31 → (y : ℕ) → variable_in (set bytes (416 + x) v) y ≡ changed (variable_in bytes) x v y
    unfolding variable_in changed
    variable_change x v a b y = elim (ℕ_discrete y x) [
      | yes q ↦ rw (q, eq-eqb x x refl, le-ltb 31 x a) (stored_node (416 + x) v (omega (arith, a, long)) b)
      | no q ↦ rw (ne_eqb y x q) (ap (λ (u : ℕ). cond (ltb 31 y) 1 (u % 32)) (get_or-set_other bytes (416 + x) (416 + y) v 0 (λ e. q (omega (arith, e)))))
    ]

    link_change : (i v w : ℕ) → i ≤ 3 → v ≤ 31 → w ≤ 31 → (j y : ℕ) → link_in (set bytes (32 * i + v) w) j y ≡ changed_at (link_in bytes) i v w j y
    unfolding link_in
    link_change i v w a b c j y = at_other (link_in bytes) i v j y w _
        (λ h. row_here 3 j y 1 _ (omega (arith, a, h.0)) (omega (arith, b, h.1)) ∙ ap (node_in (set bytes (32 * i + v) w)) (place h.0 h.1) ∙ stored_node (32 * i + v) w
        (omega (arith, a, b, long)) c)
        (λ n. rows_same 3 j y 1 _ _ (λ l k. ap (λ (x : ℕ). x % 32) (get_or-set_other bytes (32 * i + v) (32 * j + y) w 0 (λ e. n (omega (arith, e, k, b), omega (arith, e, k, b))))))
      where
        place : j ≡ i → y ≡ v → 32 * j + y ≡ 32 * i + v
        place p q = omega (arith, p, q)

    flag_change : (i v : ℕ) (f : Bool) → i ≤ 8 → v ≤ 31 → (j y : ℕ) → flag_in (set bytes (128 + 32 * i + v) (flag_byte f)) j y ≡ changed_at (flag_in bytes) i v f j y
    unfolding flag_in
    flag_change i v f a b j y = at_other (flag_in bytes) i v j y f _
        (λ h. row_here 8 j y false _ (omega (arith, a, h.0)) (omega (arith, b, h.1)) ∙ ap (λ (p : ℕ). eqb (get_or (set bytes (128 + 32 * i + v) (flag_byte f)) p 0) 1)
        (place h.0 h.1) ∙ ap (λ (x : ℕ). eqb x 1) (get_or-set_same bytes (128 + 32 * i + v) (flag_byte f) 0 (omega (arith, a, b, long))) ∙ flag_back f)
        (λ n. rows_same 8 j y false _ _ (λ l k. ap (λ (x : ℕ). eqb x 1)
        (get_or-set_other bytes (128 + 32 * i + v) (128 + 32 * j + y) (flag_byte f) 0 (λ e. n (omega (arith, e, k, b), omega (arith, e, k, b))))))
      where
        place : j ≡ i → y ≡ v → 128 + 32 * j + y ≡ 128 + 32 * i + v
        place p q = omega (arith, p, q)

    -- one variable, one link, one flag
    pub variable_stored : (x v : ℕ) → x ≤ 31 → v ≤ 31 → state_in (set bytes (416 + x) v) ≡ with_variable (state_in bytes) x v
    unfolding with_variable
    variable_stored x v a b =
        state_same _ _ _ _ _ _ _ _ (size_same (416 + x) v (omega (arith, a))) (links-same (416 + x) v (omega arith))
        (flags_same (416 + x) v (λ j y l k e. absurd (omega (arith, l, k, e)))) (fun_ext (variable_change x v a b))

    pub link_stored : (i v w : ℕ) → i ≤ 3 → v ≤ 31 → w ≤ 31 → state_in (set bytes (32 * i + v) w) ≡ with_link (state_in bytes) i v w
    unfolding with_link
    link_stored i v w a b c =
        state_same _ _ _ _ _ _ _ _ (size_same (32 * i + v) w (omega (arith, a, b))) (fun_ext λ j. fun_ext (link_change i v w a b c j))
        (flags_same (32 * i + v) w (λ j y l k e. absurd (omega (arith, a, b, e)))) (variables_same (32 * i + v) w (omega (arith, a, b)))

    pub flag_stored : (i v : ℕ) (f : Bool) → i ≤ 8 → v ≤ 31 → state_in (set bytes (128 + 32 * i + v) (flag_byte f)) ≡ with_flag (state_in bytes) i v f
    unfolding with_flag
    flag_stored i v f a b =
        state_same _ _ _ _ _ _ _ _ (size_same (128 + 32 * i + v) (flag_byte f) (omega (arith, a, b))) (links-same (128 + 32 * i + v) (flag_byte f) (omega arith))
        (fun_ext λ j. fun_ext (flag_change i v f a b j)) (variables_same (128 + 32 * i + v) (flag_byte f) (omega (arith, a, b)))

    pub flag_set : (i v : ℕ) (f : Bool) (w : ℕ) → i ≤ 8 → v ≤ 31 → w ≡ flag_byte f → state_in (set bytes (128 + 32 * i + v) w) ≡ with_flag (state_in bytes) i v f
    flag_set i v f w a b e = ap (λ (x : ℕ). state_in (set bytes (128 + 32 * i + v) x)) e ∙ flag_stored i v f a b
