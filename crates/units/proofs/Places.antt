-- What the bits of rows say of a place: the rule applies there.
use Prim.Native.Nat.{ℕ, ◌≤◌, ◌<◌}
use native.Mathlib.Omega.{arith}
use mathlib.Core.Path.{◌≡◌, refl, sym, ap, ◌∙◌, subst}
use mathlib.Core.Bool.{Bool, true, false, not}
use mathlib.Core.List.{List}
use mathlib.Core.Option.{some}
use lib.ListN.{get_or}
use lib.Bits.{bit_and, bit_or}
use lib.Dec.{eqb, ltb}
use borrow.Author.Tests.{lt-ltb, le-ltb}
use Rattle.logic.specs.Search.{◌and◌, from, find}
use Rattle.logic.specs.Facts.{Graph, Facts, live}
use Rattle.logic.specs.Rules.{Rule, FUNC, CYCLE, SCC, TOTAL, SHARE, Triple, triple, move, applies}
use Rattle.theory.proofs.Basics.Search.{and_left, and_right, and_intro, not_intro, find-some, from-mem, neither}
use Rattle.rows.specs.Bits.{bit}
use Rattle.rows.specs.Square.{square, Turned}
use Rattle.link_rows.specs.declared.Link.{Link}
use Rattle.facts.specs.Path.{graph_of}
use Rattle.rows.specs.declared.Term.{Term}
use Rattle.rows.proofs.Bits.{bit-and, bit-or, bit-none}
use Rattle.rows.proofs.Square.{square_in}
use Rattle.rules.specs.Tests.{pair_test, third_test, is_not_cycle}
use Rattle.rules.specs.Allowed.{allowed}
use Rattle.rules.specs.declared.Rule as code
use Rattle.rules.specs.declared.Third.{Third}
use Rattle.rules.specs.declared.Move.{Move}
use Rattle.rules.proofs.Halves.{halves, allowed-any, applies-allowed}
use Rattle.units.specs.Graphs.{RowsOf}
use Rattle.units.specs.Proposes.{Applies}

-- the row of b alone, which a number above 16 has none of
pub alone_in : (b w : ℕ) → b < 17 → ((i : ℕ) → bit w i ≡ eqb i b) → (i : ℕ) → bit w i ≡ (ltb b 17 and eqb i b)
unfolding ◌and◌
alone_in b w h e i = e i ∙ sym (rw (lt-ltb b 17 h) refl)

pub alone_above : (b : ℕ) → 17 ≤ b → (i : ℕ) → bit 0 i ≡ (ltb b 17 and eqb i b)
unfolding ◌and◌
alone_above b h i = bit-none i ∙ sym (rw (le-ltb b 17 h) refl)

-- a number of a row
abbrev pub In : ℕ → ℕ → Type 0
In w a = (a ≤ 16) × (bit w a ≡ true)

-- the smallest of a row is in it; of what two rows have, it is one of the first
pub lowest_in : (w t : ℕ) → some t ≡ find (bit w) (from 17 0) → In w t
lowest_in w t e =
    let h = find-some (bit w) (from 17 0) t (sym e) in
    let l = from-mem 17 0 t h.0 in
    (omega arith, h.1)

pub lowest_left : (v w t : ℕ) → some t ≡ find (bit (bit_and v w)) (from 17 0) → In v t
lowest_left v w t e = let h = lowest_in (bit_and v w) t e in (h.0, and_left (bit v t) (bit w t) (sym (bit-and v w t) ∙ h.1))

pub in_left : (v w t : ℕ) → In (bit_and v w) t → In v t
in_left v w t h = (h.0, and_left (bit v t) (bit w t) (sym (bit-and v w t) ∙ h.1))

-- a move that is made of a rule and a triple
pub placed : (n : ℕ) (s : Facts) (m : Move) (k : Link) (r : code.Rule) (x y : Term) (z : Third) → m ≡ record { link = k; rule = r; x = x; y = y; z = z } →
    Applies n s (record { link = k; rule = r; x = x; y = y; z = z }) → Applies n s m
placed n s m k r x y z e h = subst (Applies n s) (sym e) h

module _ (n : ℕ) (link reach : List ℕ) (s : Facts) (j : Link) (rows : RowsOf s j link reach) where
  -- the rule applies by the link at numbers that are in range
  abbrev At : Rule → ℕ → ℕ → ℕ → Type 0
  At r x y z = (applies n s (move j.0 r (triple x y z)) ≡ true) × (x ≤ 16) × (y ≤ 16) × (z ≤ 16)

  allowed-rows : (r : Rule) (t : Triple) → applies n s (move j.0 r t) ≡ allowed n (live n s) (graph_of link reach) (move 1 r t)
  allowed-rows r t =
      applies-allowed n s j.0 rows.0 r t
      ∙ ap (λ (g : Graph). allowed n (live n s) g (move j.0 r t)) rows.1
      ∙ allowed-any j.0 n (live n s) (graph_of link reach) r t

  tested : (r : Rule) → is_not_cycle r ≡ true → (x y z : ℕ) → pair_test (live n s) (graph_of link reach) x y r ≡ true →
      third_test (graph_of link reach) x y z r ≡ true → applies n s (move j.0 r (triple x y z)) ≡ true
  tested r l x y z p t = allowed-rows r (triple x y z) ∙ halves n (live n s) (graph_of link reach) x y z r l ∙ and_intro p t

  module _ (x y z : ℕ) where
    pub func_placed : (far : ℕ) → x ≤ 16 → In (get_or link x 0) y → ((i : ℕ) → i ≤ 16 → bit far i ≡ (square reach x i and not (eqb x i) and not (square reach y i))) → In far z → At FUNC x y z
    unfolding pair_test third_test is_not_cycle graph_of
    func_placed far h (k, p) f (l, t) = (tested FUNC refl x y z (square_in link x y h k ∙ p) (sym (f z l) ∙ t), h, k, l)

    pub scc_placed : (both out : ℕ) → x ≤ 16 → ((i : ℕ) → i ≤ 16 → bit both i ≡ (square reach x i and square reach i x and not (eqb x i))) →
        In both y → ((i : ℕ) → i ≤ 16 → bit out i ≡ (square reach x i and not (square reach i x))) → In out z → At SCC x y z
    unfolding pair_test third_test is_not_cycle graph_of
    scc_placed both out h f (k, p) g (l, t) = (tested SCC refl x y z (sym (f y k) ∙ p) (sym (g z l) ∙ t), h, k, l)

    pub share_placed : (both : ℕ) → x ≤ 16 → ((i : ℕ) → i ≤ 16 → bit both i ≡ (square reach x i and square reach i x and not (eqb x i))) → In both y →
        In (bit_and (get_or link x 0) (get_or link y 0)) z → At SHARE x y z
    unfolding pair_test third_test is_not_cycle graph_of
    share_placed both h f (k, p) (l, t) =
        let b = sym (bit-and (get_or link x 0) (get_or link y 0) z) ∙ t in (
          tested SHARE refl x y z (sym (f y k) ∙ p)
              (and_intro (square_in link x z h l ∙ and_left (bit (get_or link x 0) z) (bit (get_or link y 0) z) b)
              (square_in link y z k l ∙ and_right (bit (get_or link x 0) z) (bit (get_or link y 0) z) b)),
          h,
          k,
          l,
        )

    pub total_placed : (far : ℕ) → x ≤ 16 → In (get_or reach x 0) y →
        ((i : ℕ) → i ≤ 16 → bit far i ≡ (square reach x i and not (square reach y i) and not (square reach i y))) → In far z → At TOTAL x y z
    unfolding pair_test third_test is_not_cycle graph_of
    total_placed far h (k, p) f (l, t) = (tested TOTAL refl x y z (square_in reach x y h k ∙ p) (sym (f z l) ∙ t), h, k, l)

    -- the same from y and z, where x is found last
    pub total-found : (back : List ℕ) → Turned back reach → y ≤ 16 → z ≤ 16 → bit (bit_or (get_or reach y 0) (get_or back y 0)) z ≡ false → In (bit_and (get_or back y 0) (get_or back z 0)) x → At TOTAL x y z
    unfolding pair_test third_test is_not_cycle graph_of
    total-found back t k l no' (h, p) =
        let b = sym (bit-and (get_or back y 0) (get_or back z 0) x) ∙ p in
        let r = sym (bit-or (get_or reach y 0) (get_or back y 0) z) ∙ no' in (
          tested TOTAL refl x y z (turned y k x h ∙ and_left (bit (get_or back y 0) x) (bit (get_or back z 0) x) b)
              (and_intro (and_intro (turned z l x h ∙ and_right (bit (get_or back y 0) x) (bit (get_or back z 0) x) b)
              (not_intro (square_in reach y z k l ∙ (neither (bit (get_or reach y 0) z) (bit (get_or back y 0) z) r).0)))
              (not_intro (turned y k z l ∙ (neither (bit (get_or reach y 0) z) (bit (get_or back y 0) z) r).1))),
          h,
          k,
          l,
        )
      where
        turned : (a : ℕ) → a ≤ 16 → (b : ℕ) → b ≤ 16 → square reach b a ≡ bit (get_or back a 0) b
        turned a h b k = sym (t a b) ∙ square_in back a b h k

    pub cycle_placed : (off : ℕ) → n ≤ 16 → x ≤ 16 → z ≤ n →
        ((lives : ℕ → Bool) (i : ℕ) → i ≤ 16 → bit off i ≡ allowed n lives (graph_of link reach) (move 1 CYCLE (triple x i z))) → In off y → At CYCLE x y z
    cycle_placed off few h l f (k, p) = (allowed-rows CYCLE (triple x y z) ∙ sym (f (live n s) y k) ∙ p, h, k, omega arith)
