-- After the terms below b, the links to those are held.
use Rattle.std.proofs.Common.{◌≡◌, ◌+◌, ◌≤◌, length, refl, sym, ap, ◌∙◌, arith}
use Rattle.link_rows.proofs.Cube.{nothing_linked}
use Rattle.link_query.proofs.Said.{link_said}
use Rattle.term_links.proofs.Entries.{links-none, links_more, links_passed, links_held, argument_read, argument_within, link-within}
use Rattle.term_links.proofs.links_of.Goals as goal
use Rattle.term_links.proofs.links_of.Goals.{in-Some, in_default}

pub loop-b-init : goal.loop-b-init
loop-b-init c = (refl, links-none _ _ (nothing_linked 51))

pub add-requires : goal.add-requires
add-requires c =
    let b = c.loop-b.b in
    let l = c.args.layout in
    let q = c.args.query.now in
    let p = c.requires in
    let one : 1 ≤ b = omega arith in
    let most : b ≤ l.terms = omega arith in
    let a = c.in-Some.ensures in
    let read = argument_read l q p.0 b one most _ c.entry.ensures ∙ sym a.1 in
    let by = sym (c.entry_link-k.ensures ∙ link_said l q p.0 b one most) in
    let r = link-within p.0 p.1 b one most _ read a.0 _ by in
    (omega (arith, r.0), omega (arith, r.1), argument_within p.0 p.1 b one most _ read, omega (arith, p.0.terms_within), c.loop-b.invariant.0)

pub loop-b-preserved : goal.loop-b-preserved
loop-b-preserved c =
    let b = c.loop-b.b in
    let l = c.args.layout in
    let q = c.args.query.now in
    let w = c.requires.0 in
    let one : 1 ≤ b = omega arith in
    let most : b ≤ l.terms = omega arith in
    let read = argument_read l q w b one most _ c.entry.ensures in
    elim c.match-argument.branch [
      | in-Some v ↦
          let a = v.in-Some.ensures in
          let by = sym (v.entry_link-k.ensures ∙ link_said l q w b one most) in
          (ap length v.link-is ∙ v.add.ensures.1, links_more _ b _ _ _ _ a.0 (read ∙ sym a.1) by (rw v.link-is v.add.ensures.0) c.loop-b.invariant.1)
      | in_default v ↦ (ap length v.link-is ∙ c.loop-b.invariant.0, rw v.link-is (links_passed _ b _ (read ∙ v.in_default.ensures) c.loop-b.invariant.1))
    ]

pub returns : goal.returns
returns c k =
    let all : c.loop-b.b ≡ c.args.layout.terms + 1 = omega arith in
    links_held c.args.layout c.args.query.now c.requires.0 _ (rw all at c.loop-b.invariant.1) k
