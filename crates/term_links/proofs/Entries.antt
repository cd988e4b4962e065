-- The links of section 1, one term after the other.
use Prim.Native.Nat.{ℕ, zero, suc, ◌+◌, ◌*◌, ◌≤◌, ◌<◌}
use native.Mathlib.Omega.{arith}
use native.Mathlib.Nat.{mul-le-mul, le_refl}
use mathlib.Core.Path.{◌≡◌, refl, sym, ap, ◌∙◌, fun_ext}
use mathlib.Core.Logic.{◌⊎◌, ⊎_elim}
use mathlib.Core.Bool.{Bool, true, false, cond}
use mathlib.Core.List.{List}
use lib.ListN.{length}
use lib.Dec.{ltb, eqb}
use borrow.Author.Tests.{lt-ltb, le-ltb, ltb-false, eqb-true, eqb-false, eq-eqb, ne_eqb}
use Rattle.logic.specs.Search.{◌and◌, ◌or◌}
use Rattle.logic.specs.Query.{Query, Entries, entry_of, link_of, names_nil, argument_of, term_count}
use Rattle.logic.specs.Facts.{Graph, links_of}
use Rattle.theory.proofs.Basics.Search.{bool_cases, not_of, and-false, and-true, or-false}
use Rattle.theory.proofs.Basics.Compare.{eqb_turned, le_cases}
use Rattle.theory.proofs.Query.Entries.{argument_range}
use Rattle.theory.proofs.Query.Tied.{InLinks, Accepted}
use Rattle.theory.proofs.Paths.Start.{links_of_ranged}
use Rattle.query.specs.declared.Layout.{Layout}
use Rattle.query.proofs.Ranges.{below_of}
use Rattle.link_query.specs.Said.{entry_width, said, Within, entry_in}
use Rattle.link_query.proofs.Said.{terms-said, entry_said, few_links}
use Rattle.rows.proofs.Fill.{ltb_next}
use Rattle.link_rows.specs.Cube.{cube}
use Rattle.facts.specs.Path.{rep_of, graph_in, no_facts, path_as}
use Rattle.facts.proofs.Path.{linking, alike-graph, by_link}
use Rattle.term_links.specs.Argument.{argument_by}

-- b is f of a by link k
abbrev link_in : Entries → ℕ → ℕ → ℕ → Bool
link_in entries k a b = ltb 0 a and eqb (argument_of entries b) a and eqb (link_of entries b) k

none-and : (s t : Bool) → s and false and t ≡ false
unfolding ◌and◌
none-and true t = refl
none-and false t = refl

-- the links to the terms below t are held, and no other
abbrev pub LinksTo : Entries → ℕ → (ℕ → ℕ → ℕ → Bool) → Type 0
LinksTo entries t cur = (k a b : ℕ) → cur k a b ≡ (ltb b t and link_in entries k a b)

module _ (entries : Entries) where
  -- a variable is nobody's successor, and nil has no argument either
  variable_unlinked : (k a b : ℕ) → argument_of entries b ≡ 0 → link_in entries k a b ≡ false
  unfolding ◌and◌
  variable_unlinked k zero b e = refl
  variable_unlinked k (suc a) b e = rw (e, ne_eqb 0 (suc a) (omega arith)) (none-and (ltb 0 (suc a)) (eqb (link_of entries b) k))

  pub links-none : (cur : ℕ → ℕ → ℕ → Bool) → ((k a b : ℕ) → cur k a b ≡ false) → LinksTo entries 1 cur
  unfolding ◌and◌ entry_of names_nil argument_of
  links-none cur none k a zero = none k a zero ∙ sym (variable_unlinked k a zero refl)
  links-none cur none k a (suc b) = none k a (suc b) ∙ rw (le-ltb (suc b) 1 (omega arith))

  -- the link to t is held next
  pub links_more : (t a k : ℕ) (cur later : ℕ → ℕ → ℕ → Bool) → 0 < a → argument_of entries t ≡ a → link_of entries t ≡ k →
      later ≡ (λ j x y. cur j x y or (eqb j k and eqb x a and eqb y t)) → LinksTo entries t cur → LinksTo entries (t + 1) later
  unfolding ◌and◌ ◌or◌
  links_more t a k cur later h e by f m j x y = ap (λ (g : ℕ → ℕ → ℕ → Bool). g j x y) f ∙ ap (λ (b : Bool). b or (eqb j k and eqb x a and eqb y t)) (m j x y) ∙ go (eqb y t) refl
    where
      row : (u : Bool) → eqb x a ≡ u → (eqb j k and u and true) ≡ (ltb 0 x and eqb a x and eqb k j)
      row true i = let q = eqb-true x a i in rw (q, eq-eqb a a refl, lt-ltb 0 a h) (and-true (eqb j k and true) ∙ and-true (eqb j k) ∙ eqb_turned j k)
      row false i = rw (ne_eqb a x (λ q. eqb-false x a i (sym q))) (none-and (eqb j k) true ∙ sym (none-and (ltb 0 x) (eqb k j)))

      go : (v : Bool) → eqb y t ≡ v → (ltb y t and link_in entries j x y) or (eqb j k and eqb x a and v) ≡ (ltb y (t + 1) and link_in entries j x y)
      go true i = let p = eqb-true y t i in rw (p, le-ltb t t (omega arith), lt-ltb t (t + 1) (omega arith), e, by) (row (eqb x a) refl)
      go false i = rw (and-false (eqb j k and eqb x a), ltb_next y t (eqb-false y t i)) (or-false (ltb y t and link_in entries j x y))

  -- a term with no argument changes nothing
  pub links_passed : (t : ℕ) (cur : ℕ → ℕ → ℕ → Bool) → argument_of entries t ≡ 0 → LinksTo entries t cur → LinksTo entries (t + 1) cur
  unfolding ◌and◌
  links_passed t cur e m k x y = m k x y ∙ go (eqb y t) refl
    where
      go : (v : Bool) → eqb y t ≡ v → (ltb y t and link_in entries k x y) ≡ (ltb y (t + 1) and link_in entries k x y)
      go true i = let p = eqb-true y t i in rw (p, le-ltb t t (omega arith), lt-ltb t (t + 1) (omega arith)) (sym (variable_unlinked k x t e))
      go false i = rw (ltb_next y t (eqb-false y t i)) refl

  -- all links are held
  links-all : (n : ℕ) (cur : ℕ → ℕ → ℕ → Bool) → ((b : ℕ) → n < b → argument_of entries b ≡ 0) → LinksTo entries (n + 1) cur → (k : ℕ) → cur k ≡ link_in entries k
  unfolding ◌and◌
  links-all n cur beyond m k = fun_ext (λ a. fun_ext (λ b. m k a b ∙ ⊎_elim (λ t. rw t) (λ t. let l = ltb-false b (n + 1) t in
      rw t (sym (variable_unlinked k a b (beyond b (omega arith))))) (bool_cases (ltb b (n + 1)))))

-- what is read in place
module _ (l : Layout) (bytes : List ℕ) (w : Within l bytes) where
  pub entry_fits : (t : ℕ) → t ≤ l.terms → entry_width l.links * t < length bytes
  entry_fits t h = go (entry_width l.links) w.entries_fit
    where
      go : (k : ℕ) → 1 + k * l.terms ≤ length bytes → k * t < length bytes
      go k u = omega (arith, u, mul-le-mul (le_refl k) h)

  argument_beyond : (t : ℕ) → l.terms < t → argument_of (said l bytes).entries t ≡ 0
  unfolding term_count
  argument_beyond t h =
      ⊎_elim (λ one. absurd (let r = argument_range (said l bytes).entries t one in
      omega (arith, h, r.1, terms-said l bytes w))) (λ none. omega (arith, none)) (le_cases 1 (argument_of (said l bytes).entries t))

  pub links_held : (cur : ℕ → ℕ → ℕ → Bool) → LinksTo (said l bytes).entries (l.terms + 1) cur → (k : ℕ) → cur k ≡ ((links_of (said l bytes)).graph k).link
  unfolding links_of
  links_held cur m = links-all (said l bytes).entries l.terms cur argument_beyond m

  module _ (t : ℕ) (one : 1 ≤ t) (most : t ≤ l.terms) (byte : ℕ) (read : byte ≡ entry_in l.links bytes t) where
    pub argument_read : argument_of (said l bytes).entries t ≡ argument_by byte
    unfolding argument_of names_nil argument_by
    argument_read = rw (← (read ∙ entry_said l bytes w t one most)) refl

    pub nil-read : names_nil (said l bytes).entries t ≡ eqb byte 255
    unfolding names_nil
    nil-read = rw (← (read ∙ entry_said l bytes w t one most)) refl

-- a term's argument is one that the rows have room for, and so is its link
module _ {l : Layout} {bytes : List ℕ} (w : Within l bytes) (acc : Accepted (said l bytes)) (t : ℕ) (one : 1 ≤ t) (most : t ≤ l.terms) (a : ℕ) (e : argument_of (said l bytes).entries t ≡ a) where
  pub argument_within : a ≤ 16
  argument_within = omega (arith, e, below_of acc (sym (terms-said _ _ w)) t one most, most, w.terms_within)

  pub link-within : 0 < a → (k : ℕ) → link_of (said l bytes).entries t ≡ k → (0 < k) × (k ≤ 3)
  unfolding said
  link-within some k f =
      let r = acc.entry_linked t (one, rw (terms-said _ _ w) most) (omega (arith, e, some)) in
      (omega (arith, f, r.0), omega (arith, f, r.1, few_links l bytes w))

-- The path of the links, from those of each link
module _ (q : Query) (acc : Accepted q) where
  abbrev links : ℕ → ℕ → ℕ → Bool
  links k = ((links_of q).graph k).link

  -- what is no link has no facts
  elsewhere : (k : ℕ) → (InLinks q k → ⊥) → links k ≡ (λ a b. false)
  unfolding links_of
  elsewhere k d = fun_ext (λ a. fun_ext (λ b. not_of (λ e. d ((links_of_ranged q acc).link_linked k a b e))))

  -- the facts of link k at the start
  abbrev linked_by : ℕ → Graph
  linked_by k = linking (links k) (λ a b. false)

  -- rows that hold these links and no reachability hold the path
  pub linked_in_rows : (single : Bool) (rep link reach : List ℕ) → single ≡ eqb q.links 1 → (q.links ≡ 1) ⊎ (q.links ≡ 3) → rep_of rep ≡ (λ t. t) →
      ((k : ℕ) → cube link k ≡ links k) → ((k a b : ℕ) → cube reach k a b ≡ false) → path_as single rep link reach ≡ links_of q
  unfolding graph_in no_facts links_of
  linked_in_rows single rep link reach e o r f none = λ i. record { rep = r i; links = counted i; graph = fun_ext (by_link single link reach linked_by within beyond) i }
    where
      counted : cond single 1 3 ≡ q.links
      counted = ⊎_elim (λ one. rw (e ∙ eq-eqb q.links 1 one) (sym one)) (λ three. rw (e ∙ ne_eqb q.links 1 (λ z. omega (arith, z, three))) (sym three)) o

      nothing : (k : ℕ) → cube reach k ≡ (λ a b. false)
      nothing k = fun_ext (λ a. fun_ext (λ b. none k a b))

      within : (k : ℕ) → k ≤ cond single 1 3 → graph_in link reach k ≡ linked_by k
      within k h = alike-graph (f k) (nothing k)

      beyond : (k : ℕ) → cond single 1 3 < k → no_facts ≡ linked_by k
      beyond k h = alike-graph (sym (elsewhere k (λ z. omega (arith, z.1, h, counted)))) refl
