use Rattle.std.proofs.Common.{ℕ, ◌≡◌, ◌+◌, ◌-◌, ◌<◌, ◌≤◌, List, length, get_or, drop, sym, ap, ◌∙◌, subst, arith}
use Rattle.formula.specs.Grammar.{Letter, literal, shown}
use Rattle.formula.specs.Places.{digits_at}
use Rattle.formula.specs.Reader.{done, past_blanks}
use Rattle.formula_reader.specs.Tree.{Tree, leaf, Node, put_node, letter_code}
use Rattle.formula_reader.proofs.Readers.{named-not, named_absent, named_present, place_small}
use Rattle.formula_reader.proofs.Trees.{put_node_node, put_node_kept, put_node-length}
use Rattle.formula_reader.proofs.read_name.Goals as goal

written : (before after : List ℕ) (used : ℕ) (l : Letter) (code n place : ℕ) → code ≡ letter_code l → n ≡ place → used < 512 → length before ≡ 2048 →
    after ≡ put_node before used code n 0 1 → Tree after (used + 1 - 1) (literal l place)
written before after used l code n place e p h k w =
    subst (λ (i : ℕ). Tree after i (literal l place)) at (subst (λ (x : List ℕ). Tree x used (literal l place)) (sym w)
    (leaf l place (subst (λ (x : ℕ). Node (put_node before used code n 0 1) used x place 0 1) e
    (subst (λ (x : ℕ). Node (put_node before used code n 0 1) used code x 0 1) p (put_node_node before used code n 0 1 h k)))))
  where
    at : used ≡ used + 1 - 1
    at = omega arith

pub returns-then-not-is_place-clause-named_as : goal.returns-then-not-is_place-clause-named_as
returns-then-not-is_place-clause-named_as c l e =
    rw c.at.ensures (named-not _ l _ _ (sym c.is_place.ensures ∙ c.if-not-is_place.true))

pub returns-then-counts-code-clause-named_as : goal.returns-then-counts-code-clause-named_as
returns-then-counts-code-clause-named_as c l e =
    rw c.at-then-counts-code.ensures
    (named_absent _ l _ _ c.args.code c.requires.4 e (sym c.is_place.ensures ∙ c.if-not-is_place.false)
    (subst (λ (n : ℕ). get_or c.args.counts.now c.args.code 0 < n) c.place_at-n.ensures c.if-counts-code.true))

pub returns-clause-ranged : goal.returns-clause-ranged
returns-clause-ranged c =
    record {
      advanced = omega (arith, c.past_digits-digits_end.ensures.0, c.past_blanks-next.ensures.0);
      within = c.past_blanks-next.ensures.1;
      grown = omega arith;
      bounded = omega (arith, c.past_digits-digits_end.ensures.0, c.past_blanks-next.ensures.0);
      kept = λ j l. ap (λ (x : List ℕ). get_or x j 0) c.put_node.ensures ∙ put_node_kept _ _ _ _ _ _ j l;
      same_length = ap length c.put_node.ensures ∙ put_node-length _ _ _ _ _ _;
    }

pub returns-clause-named_as : goal.returns-clause-named_as
returns-clause-named_as c l e =
    let code = c.args.code in let counts = c.args.counts.now in let text = c.args.text.now in let at = c.args.at in
    let h = subst (λ (n : ℕ). n ≤ get_or counts code 0) c.place_at-n.ensures c.if-counts-code.false in
    let p = sym c.is_place.ensures ∙ c.if-not-is_place.false in (
      literal l (shown 0 (digits_at (drop (at + 1) text))),
      named_present counts l (drop at text) (drop (at + 1) text) code c.requires.4 e p h
          ∙ ap (done (literal l (shown 0 (digits_at (drop (at + 1) text)))))
          (ap past_blanks (sym c.past_digits-digits_end.ensures.2) ∙ sym c.past_blanks-next.ensures.2),
      written c.args.nodes.now _ c.args.used l code c.place_at-n.result (shown 0 (digits_at (drop (at + 1) text))) e
          (c.place_at-n.ensures ∙ place_small counts l (drop at text) (drop (at + 1) text) code c.requires.4 e p h)
          (omega arith) c.requires.5 c.put_node.ensures,
    )
