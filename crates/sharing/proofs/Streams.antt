-- What is printed of a stream, turn by turn, whatever bytes follow those that are held. Assumes nothing.
use Prim.Native.Nat.{ℕ, zero, suc, ◌+◌, ◌-◌, ◌≤◌, ◌<◌, min}
use native.Mathlib.Omega.{arith}
use mathlib.Core.Path.{◌≡◌, refl, sym, ap, ◌∙◌}
use mathlib.Core.Logic.{◌⊎◌, ⊎_elim, inl, inr}
use mathlib.Core.Bool.{Bool, true, false, cond, false≢true}
use mathlib.Core.List.{List, [], ◌∷◌, ◌++◌, append_assoc, append-nil}
use lib.ListN.{length, take, drop, length-append, length-drop, length-take, drop_of_length-le}
use lib.Seq.{take_all, take_at, drop_at, take-append-le, drop-append-le, drop-drop, length-take-le}
use Rattle.logic.specs.Search.{◌or◌}
use Rattle.theory.proofs.Basics.Compare.{le_cases}
use Rattle.fractions.specs.Fractions.{shares_text}
use Rattle.sharing.specs.Output.{Turn, is_bad, wanted, turn_of, first_turn, first_length, output_within, output_from}
use Rattle.sharing.proofs.Lengths.{wanted_few}
use Rattle.sharing.specs.Streaming.{still_printed}

-- a turn that goes on has a whole length
pub goes_two : (order counts bytes : List ℕ) → (first_turn order counts bytes).goes ≡ true → 2 ≤ length bytes
unfolding first_turn turn_of is_bad ◌or◌
goes_two order counts [] e = absurd (false≢true e)
goes_two order counts (a ∷ []) e = absurd (false≢true e)
goes_two order counts (a ∷ b ∷ bytes) e = omega arith

pub first_two : (bytes : List ℕ) → 2 ≤ first_length bytes
unfolding first_length
first_two bytes = omega arith

first_most : (bytes : List ℕ) → first_length bytes ≤ 683
unfolding first_length
first_most bytes = omega (arith, wanted_few (take 2 bytes))

-- As many steps as there are bytes, and one more, are enough.
choose : {A : Type 0} {x y : A} (z : A) (b : Bool) → (b ≡ true → x ≡ y) → cond b x z ≡ cond b y z
choose z true e = e refl
choose z false e = refl

module _ (order : List ℕ) where
  enough : (k m : ℕ) (counts bytes : List ℕ) → length bytes < k → length bytes < m → output_within k order counts bytes ≡ output_within m order counts bytes
  unfolding output_within
  enough zero m counts bytes h i = absurd (omega arith)
  enough (suc k) zero counts bytes h i = absurd (omega arith)
  enough (suc k) (suc m) counts bytes h i =
      let t : Turn = first_turn order counts bytes in
      let n : ℕ = first_length bytes in
      ap (λ (r : List ℕ). t.text ++ r)
      (choose (shares_text t.counts) t.goes
      (λ (e : t.goes ≡ true). enough k m t.counts (drop n bytes)
      (omega (arith, first_two bytes, length-drop n bytes, goes_two order counts bytes e))
      (omega (arith, first_two bytes, length-drop n bytes, goes_two order counts bytes e))))

-- what is printed of the bytes behind the order list
abbrev pub onward : List ℕ → List ℕ → List ℕ → List ℕ
onward order counts bytes = output_within (suc (length bytes)) order counts bytes

pub onward-turn : (order counts bytes : List ℕ) → onward order counts bytes ≡ (first_turn order counts bytes).text
    ++ cond (first_turn order counts bytes).goes (onward order (first_turn order counts bytes).counts (drop (first_length bytes) bytes)) (shares_text (first_turn order counts bytes).counts)
unfolding output_within
onward-turn order counts bytes =
    let t : Turn = first_turn order counts bytes in
    let n : ℕ = first_length bytes in
    ap (λ (r : List ℕ). t.text ++ r)
    (choose (shares_text t.counts) t.goes
    (λ (e : t.goes ≡ true). enough order (length bytes) (suc (length (drop n bytes))) t.counts (drop n bytes)
    (omega (arith, first_two bytes, length-drop n bytes, goes_two order counts bytes e)) (omega arith)))

-- the order list is whole, or nothing is behind it
pub from_order : (order counts bytes : List ℕ) → (length order ≡ 8) ⊎ ((length order ≤ 8) × (bytes ≡ [])) → output_from counts (order ++ bytes) ≡ onward order counts bytes
unfolding output_from
from_order order counts bytes (inl e) =
    ap (λ (o : List ℕ). output_within (suc (length (order ++ bytes))) o counts (drop 8 (order ++ bytes))) (take_at order bytes 8 e)
    ∙ ap (λ (b : List ℕ). output_within (suc (length (order ++ bytes))) order counts b) (drop_at order bytes 8 e)
    ∙ enough order (suc (length (order ++ bytes))) (suc (length bytes)) counts bytes (omega (arith, length-append order bytes)) (omega arith)
from_order order counts bytes (inr (h, e)) =
    let w : order ++ bytes ≡ order = ap (λ (b : List ℕ). order ++ b) e ∙ append-nil order in
    ap (λ (l : List ℕ). output_within (suc (length l)) (take 8 l) counts (drop 8 l)) w
    ∙ ap (λ (o : List ℕ). output_within (suc (length order)) o counts (drop 8 order)) (take_all 8 order h)
    ∙ ap (λ (b : List ℕ). output_within (suc (length order)) order counts b) (drop_of_length-le order {i = 8} h ∙ sym e)
    ∙ enough order (suc (length order)) (suc (length bytes)) counts bytes (omega (arith, ap length e)) (omega arith)

-- More bytes behind those held change no turn that has come whole.
module _ (bytes more : List ℕ) (w : (more ≡ []) ⊎ (683 ≤ length bytes)) where
  head_same : take 2 (bytes ++ more) ≡ take 2 bytes
  head_same = ⊎_elim (λ (e : more ≡ []). ap (take 2) (ap (λ (m : List ℕ). bytes ++ m) e ∙ append-nil bytes)) (λ (h : 683 ≤ length bytes). take-append-le 2 bytes more (omega arith)) w

  pub first_same : (order counts : List ℕ) → first_turn order counts (bytes ++ more) ≡ first_turn order counts bytes
  unfolding first_turn
  first_same order counts =
      ⊎_elim
      (λ (e : more ≡ []). ap (λ (b : List ℕ). turn_of order counts (take 2 b) (take (wanted (take 2 b)) (drop 2 b))) (ap (λ (m : List ℕ). bytes ++ m) e ∙ append-nil bytes))
      (λ (h : 683 ≤ length bytes).
      let n : ℕ = wanted (take 2 bytes) in
      ap (λ (l : List ℕ). turn_of order counts l (take (wanted l) (drop 2 (bytes ++ more)))) head_same
      ∙ ap (λ (l : List ℕ). turn_of order counts (take 2 bytes) (take n l)) (drop-append-le 2 bytes more (omega arith))
      ∙ ap (turn_of order counts (take 2 bytes)) (take-append-le n (drop 2 bytes) more (omega (arith, length-drop 2 bytes, wanted_few (take 2 bytes)))))
      w

  length_same : first_length (bytes ++ more) ≡ first_length bytes
  unfolding first_length
  length_same = ap (λ (l : List ℕ). 2 + wanted l) head_same

  pub rest_same : drop (first_length (bytes ++ more)) (bytes ++ more) ≡ drop (min (length bytes) (first_length bytes)) bytes ++ more
  rest_same = ap (λ (n : ℕ). drop n (bytes ++ more)) length_same ∙ ⊎_elim none whole w
    where
      none : more ≡ [] → drop (first_length bytes) (bytes ++ more) ≡ drop (min (length bytes) (first_length bytes)) bytes ++ more
      none e =
          ap (λ (m : List ℕ). drop (first_length bytes) (bytes ++ m)) e ∙ ap (drop (first_length bytes)) (append-nil bytes)
          ∙ ⊎_elim
          (λ (h : first_length bytes ≤ length bytes). let n : first_length bytes ≡ min (length bytes) (first_length bytes) = omega arith in ap (λ (k : ℕ). drop k bytes) n)
          (λ (h : length bytes < first_length bytes).
          drop_of_length-le bytes {i = first_length bytes} (omega arith) ∙ sym (drop_of_length-le bytes {i = min (length bytes) (first_length bytes)} (omega arith)))
          (le_cases (first_length bytes) (length bytes))
          ∙ sym (ap (λ (m : List ℕ). drop (min (length bytes) (first_length bytes)) bytes ++ m) e ∙ append-nil (drop (min (length bytes) (first_length bytes)) bytes))

      whole : 683 ≤ length bytes → drop (first_length bytes) (bytes ++ more) ≡ drop (min (length bytes) (first_length bytes)) bytes ++ more
      whole h =
          let n : first_length bytes ≡ min (length bytes) (first_length bytes) = omega (arith, first_most bytes) in
          drop-append-le (first_length bytes) bytes more (omega (arith, first_most bytes)) ∙ ap (λ (k : ℕ). drop k bytes ++ more) n

-- A turn on the bytes from a place on: what is printed is its text, and what is printed of the bytes behind it.
module _ (held : List ℕ) (at : ℕ) (o : min (length held) 8 ≤ at) (a : at ≤ length held) (counts more : List ℕ) (w : (more ≡ []) ⊎ (683 ≤ length held - at)) where
  abbrev order : List ℕ
  order = take 8 held

  abbrev bytes : List ℕ
  bytes = drop at held

  abbrev turn : Turn
  turn = first_turn order counts bytes

  come : (more ≡ []) ⊎ (683 ≤ length bytes)
  come = ⊎_elim (λ (e : more ≡ []). inl e) (λ (h : 683 ≤ length held - at). inr (omega (arith, length-drop at held))) w

  -- bytes from a place on, with those behind them: the order list before them is whole, or there are none
  ordered : (k : ℕ) → at ≤ k → (length order ≡ 8) ⊎ ((length order ≤ 8) × (drop k held ++ more ≡ []))
  ordered k h = ⊎_elim (λ (l : 8 ≤ length held). inl (length-take-le 8 held l)) (λ (l : length held < 8). inr (omega (arith, length-take 8 held), none l)) (le_cases 8 (length held))
    where
      none : length held < 8 → drop k held ++ more ≡ []
      none l = ⊎_elim (λ (e : more ≡ []). ap (λ (m : List ℕ). drop k held ++ m) e ∙ append-nil (drop k held)
          ∙ drop_of_length-le held {i = k} (omega arith)) (λ (h : 683 ≤ length held - at). absurd (omega arith)) w

  pub turn_prints : (taken : ℕ) → taken ≡ min (length bytes) (first_length bytes)
      → output_from counts ((order ++ bytes) ++ more) ≡ turn.text ++ still_printed turn.goes turn.counts ((order ++ drop (at + taken) held) ++ more)
  unfolding still_printed
  turn_prints taken e =
      ap (output_from counts) (append_assoc order bytes more)
      ∙ from_order order counts (bytes ++ more) (ordered at (omega arith))
      ∙ onward-turn order counts (bytes ++ more)
      ∙ ap (λ (t : Turn). t.text ++ cond t.goes (onward order t.counts (drop (first_length (bytes ++ more)) (bytes ++ more))) (shares_text t.counts)) (first_same bytes more come order counts)
      ∙ ap (λ (l : List ℕ). turn.text ++ cond turn.goes l (shares_text turn.counts)) rest
    where
      rest : onward order turn.counts (drop (first_length (bytes ++ more)) (bytes ++ more)) ≡ output_from turn.counts ((order ++ drop (at + taken) held) ++ more)
      rest =
          ap (onward order turn.counts) (rest_same bytes more come ∙ ap (λ (k : ℕ). drop k bytes ++ more) (sym e) ∙ ap (λ (l : List ℕ). l ++ more) (drop-drop taken at held))
          ∙ sym (from_order order turn.counts (drop (at + taken) held ++ more) (ordered (at + taken) (omega arith)))
          ∙ ap (output_from turn.counts) (sym (append_assoc order (drop (at + taken) held) more))
