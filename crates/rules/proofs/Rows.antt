-- The rows that the searches are made of: each has the numbers that pass a rule's test.
use Prim.Native.Nat.{ℕ, ◌/◌, ◌^◌, ◌≤◌}
use mathlib.Core.Path.{◌≡◌, sym, ap, ap₂, ◌∙◌}
use mathlib.Core.Bool.{Bool, not}
use mathlib.Core.List.{List}
use lib.ListN.{get_or}
use lib.Bits.{bit_and}
use lib.Dec.{eqb}
use Rattle.logic.specs.Search.{◌and◌}
use Rattle.logic.specs.Rules.{REFLEX, TRANS1, TRANS2, FUNC, SCC, TOTAL, SHARE}
use Rattle.theory.proofs.Basics.Compare.{eqb_turned}
use Rattle.rows.specs.Bits.{bit}
use Rattle.rows.specs.Square.{Turned}
use Rattle.facts.specs.Path.{graph_of}
use Rattle.rows.proofs.Bits.{bit-and}
use Rattle.rows.proofs.Words.{bit_single}
use Rattle.rows.proofs.Square.{square_in}
use Rattle.rules.specs.Tests.{pair_test, third_test}

module _ (link reach : List ℕ) where
  -- what the rows of x have, as the graph says it
  module _ (x y : ℕ) (h : x ≤ 16) (k : y ≤ 16) where
    pub near_bit : bit (get_or link x 0) y ≡ (graph_of link reach).link x y
    unfolding graph_of
    near_bit = sym (square_in link x y h k)

    pub far_bit : bit (get_or reach x 0) y ≡ (graph_of link reach).reach x y
    unfolding graph_of
    far_bit = sym (square_in reach x y h k)

  -- the second number
  module _ (alive : ℕ) (x : ℕ) (h : x ≤ 16) (y : ℕ) (k : y ≤ 16) where
    pub pair_reflex : (w : ℕ) → ((i : ℕ) → bit w i ≡ bit alive i and not (bit (get_or reach x 0) i)) → bit (bit_and (w / 2 ^ x) 1) y ≡ pair_test (bit alive) (graph_of link reach) x y REFLEX
    unfolding pair_test
    pair_reflex w e = bit_single w x y ∙ ap (λ (b : Bool). b and eqb y 0) (e x ∙ ap (λ (b : Bool). bit alive x and not b) (far_bit x x h h))

    pub pair_trans1 : (w : ℕ) → ((i : ℕ) → bit w i ≡ bit (get_or link x 0) i and not (bit (get_or reach x 0) i)) → bit w y ≡ pair_test (bit alive) (graph_of link reach) x y TRANS1
    unfolding pair_test
    pair_trans1 w e = e y ∙ ap₂ (λ a b. a and not b) (near_bit x y h k) (far_bit x y h k)

  -- the third
  module _ (x y z : ℕ) (h : x ≤ 16) (k : y ≤ 16) (l : z ≤ 16) where
    pub third_trans2 : (w : ℕ) → ((i : ℕ) → bit w i ≡ bit (get_or reach y 0) i and not (bit (get_or reach x 0) i)) → bit w z ≡ third_test (graph_of link reach) x y z TRANS2
    unfolding third_test
    third_trans2 w e = e z ∙ ap₂ (λ a b. a and not b) (far_bit y z k l) (far_bit x z h l)

    pub third_func : (o v w : ℕ) → ((i : ℕ) → bit o i ≡ eqb i x) → ((i : ℕ) → bit v i ≡ bit (get_or reach x 0) i and not (bit o i)) →
        ((i : ℕ) → bit w i ≡ bit v i and not (bit (get_or reach y 0) i)) → bit w z ≡ third_test (graph_of link reach) x y z FUNC
    unfolding third_test
    third_func o v w f d e = e z ∙ ap₂ (λ a b. a and not b) (d z ∙ ap₂ (λ a b. a and not b) (far_bit x z h l) (f z ∙ eqb_turned z x)) (far_bit y z k l)

    pub third_share : bit (bit_and (get_or link x 0) (get_or link y 0)) z ≡ third_test (graph_of link reach) x y z SHARE
    unfolding third_test
    third_share = bit-and (get_or link x 0) (get_or link y 0) z ∙ ap₂ ◌and◌ (near_bit x z h l) (near_bit y z k l)

  -- with reachability turned round
  module _ (back : List ℕ) (t : Turned back reach) where
    back_bit : (x y : ℕ) → x ≤ 16 → y ≤ 16 → bit (get_or back x 0) y ≡ (graph_of link reach).reach y x
    unfolding graph_of
    back_bit x y h k = sym (square_in back x y h k) ∙ t x y

    pub pair_mutual : (x : ℕ) (h : x ≤ 16) (y : ℕ) (k : y ≤ 16) (o w : ℕ) → ((i : ℕ) → bit o i ≡ eqb i x) →
        ((i : ℕ) → bit w i ≡ bit (bit_and (get_or reach x 0) (get_or back x 0)) i and not (bit o i)) →
        bit w y ≡ ((graph_of link reach).reach x y and (graph_of link reach).reach y x and not (eqb x y))
    pair_mutual x h y k o w f e = e y ∙ ap₂ (λ a b. a and not b) (bit-and (get_or reach x 0) (get_or back x 0) y ∙ ap₂ ◌and◌ (far_bit x y h k) (back_bit x y h k)) (f y ∙ eqb_turned y x)

    module _ (x y z : ℕ) (h : x ≤ 16) (k : y ≤ 16) (l : z ≤ 16) where
      pub third_scc : (w : ℕ) → ((i : ℕ) → bit w i ≡ bit (get_or reach x 0) i and not (bit (get_or back x 0) i)) → bit w z ≡ third_test (graph_of link reach) x y z SCC
      unfolding third_test
      third_scc w e = e z ∙ ap₂ (λ a b. a and not b) (far_bit x z h l) (back_bit x z h l)

      pub third_total : (v w : ℕ) → ((i : ℕ) → bit v i ≡ bit (get_or reach x 0) i and not (bit (get_or reach y 0) i)) →
          ((i : ℕ) → bit w i ≡ bit v i and not (bit (get_or back y 0) i)) → bit w z ≡ third_test (graph_of link reach) x y z TOTAL
      unfolding third_test
      third_total v w d e = e z ∙ ap₂ (λ a b. a and not b) (d z ∙ ap₂ (λ a b. a and not b) (far_bit x z h l) (far_bit y z k l)) (back_bit y z k l)
