-- What a well-formed report has (01, "The heap shown").
use Prim.Native.Nat.{ℕ, ◌+◌, ◌-◌, ◌≤◌, ◌<◌}
use native.Mathlib.Omega.{arith}
use mathlib.Core.Path.{◌≡◌, sym, ap, ◌∙◌}
use mathlib.Core.Bool.{true}
use mathlib.Core.List.{List, ◌++◌}
use lib.ListN.{length, get_or, take, drop, replicate, length-drop, length-replicate, get_or-replicate, take-append-drop}
use lib.Seq.{get_or-drop, ext_get_or}
use lib.Dec.{eqb, ltb, leb}
use borrow.Author.Tests.{ltb-true, leb-true, eqb-true}
use Rattle.logic.specs.Shown.{size_in, node_in, is_node, well_formed}
use Rattle.theory.proofs.Basics.Search.{and_left, and_right, all_true, from_intro}
use Rattle.theory.proofs.Calls.OneLink.{well_formed-one}
use Rattle.drawing.specs.Text.{count_in, link_in, report_size}

pub record Formed (bytes : List ℕ) : Type 0 where
  pub some_node : 1 ≤ size_in bytes
  pub few_nodes : size_in bytes ≤ 16
  pub few_terms : count_in bytes ≤ 16
  pub whole : report_size bytes ≤ length bytes
  pub third : get_or bytes (size_in bytes + count_in bytes + 2) 0 ≡ size_in bytes
  pub fourth : get_or bytes (size_in bytes + count_in bytes + size_in bytes + 3) 0 ≡ 1
  pub link_node : (v : ℕ) → 1 ≤ v → v ≤ size_in bytes → (1 ≤ link_in bytes v) × (link_in bytes v ≤ size_in bytes)
  pub term_node : (t : ℕ) → 1 ≤ t → t ≤ count_in bytes → (1 ≤ node_in bytes t) × (node_in bytes t ≤ size_in bytes)
  pub past : (i : ℕ) → report_size bytes ≤ i → i < length bytes → get_or bytes i 0 ≡ 0

node_range : (m v : ℕ) → is_node m v ≡ true → (1 ≤ v) × (v ≤ m)
unfolding is_node
node_range m v h = (ltb-true 0 v (and_left (ltb 0 v) (leb v m) h), leb-true v m (and_right (ltb 0 v) (leb v m) h))

pub formed : (bytes : List ℕ) → well_formed 1 bytes ≡ true → Formed bytes
unfolding count_in link_in node_in report_size
formed bytes one =
    let h = sym (well_formed-one bytes) ∙ one in
    let m : ℕ = size_in bytes in
    let n : ℕ = count_in bytes in
    let h₆ = and_left _ _ h in
    let h₅ = and_left _ _ h₆ in
    let h₄ = and_left _ _ h₅ in
    let h₃ = and_left _ _ h₄ in
    let h₂ = and_left _ _ h₃ in
    let h₁ = and_left _ _ h₂ in
    let size = node_range 16 m (and_left _ _ h₁) in
    record {
      some_node = size.0;
      few_nodes = size.1;
      few_terms = leb-true n 16 (and_right _ _ h₁);
      whole = leb-true (m + n + m + 5) (length bytes) (and_right _ _ h₂);
      third = eqb-true (get_or bytes (m + n + 2) 0) m (and_right _ _ h₃);
      fourth = eqb-true (get_or bytes (m + n + m + 3) 0) 1 (and_right _ _ h₄);
      link_node = λ v l r. node_range m (get_or bytes v 0) (all_true (λ i. is_node m (get_or bytes i 0)) v (and_right _ _ h₅) (from_intro m 1 v l (omega arith)));
      term_node = λ t l r. node_range m (get_or bytes (m + 1 + t) 0)
          (all_true (λ i. is_node m (get_or bytes i 0)) (m + 1 + t) (and_right _ _ h₆) (from_intro n (m + 2) (m + 1 + t) (omega arith) (omega arith)));
      past = λ i l r. eqb-true (get_or bytes i 0) 0 (all_true (λ j. eqb (get_or bytes j 0) 0) i (and_right _ _ h) (from_intro (length bytes - (m + n + m + 5)) (m + n + m + 5) i l (omega arith)));
    }

-- a report and the zeros past it
pub zeros_past : (bytes : List ℕ) → Formed bytes → bytes ≡ take (report_size bytes) bytes ++ replicate (length bytes - report_size bytes) 0
zeros_past bytes f =
    let k : ℕ = report_size bytes in
    sym (take-append-drop k bytes)
    ∙ ap (λ (xs : List ℕ). take k bytes ++ xs)
    (ext_get_or 0 (drop k bytes) (replicate (length bytes - k) 0)
    (length-drop k bytes ∙ sym (length-replicate (length bytes - k) 0))
    (λ i h.
    let l : i < length bytes - k = omega (arith, length-drop k bytes) in
    get_or-drop k bytes i 0 ∙ f.past (k + i) (omega arith) (omega arith) ∙ sym (get_or-replicate (length bytes - k) i 0 0 l)))
