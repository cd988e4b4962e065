-- What a query says, read in place, in either form.
use Prim.Native.Nat.{ℕ, zero, suc, ◌+◌, ◌-◌, ◌*◌, ◌≤◌, ◌<◌}
use native.Mathlib.Nat.{mul-le-mul, one-mul, mul-suc, le_refl}
use native.Mathlib.Numerals.{one-add}
use native.Mathlib.Omega.{arith}
use mathlib.Core.Path.{◌≡◌, refl, sym, ap, ◌∙◌}
use mathlib.Core.Logic.{⊎_elim, inl}
use mathlib.Core.Bool.{Bool, true, false}
use mathlib.Core.List.{List}
use lib.ListN.{length, get_or, take, drop, length-drop}
use lib.Seq.{length-take-le, get_or-drop, get_or-take}
use lib.Dec.{eqb}
use borrow.Author.Tests.{eq-eqb, ne_eqb}
use Rattle.logic.specs.Query.{Entries, Literal, Query, entry_of, link_of, term_count}
use Rattle.logic.specs.ThreeLinks.{firsts, seconds, linked_literals}
use Rattle.theory.proofs.Basics.Compare.{eq_cases}
use Rattle.entries.proofs.Loops.{drop_two, drop_four}
use Rattle.query.specs.declared.Layout.{Layout}
use Rattle.query.specs.Forms.{entry_kind, reach_kind}
use Rattle.query.specs.LaysOut.{LaysOutAs, literal_in}
use Rattle.query.proofs.Literals.{listed, listed-length, listed_get_d, split_are, literals_are}
use Rattle.link_query.specs.Said.{entry_width, reach_width, entries_by, reach_by, said, Within, entry_in, link_in, linked_in, reach_in}

-- One link, and more

module _ {links : ℕ} where
  pub one_entry : links ≡ 1 → entry_width links ≡ 1
  unfolding entry_width entry_kind
  one_entry e = rw (eq-eqb _ _ e)

  pub more_entry : (links ≡ 1 → ⊥) → entry_width links ≡ 2
  unfolding entry_width entry_kind
  more_entry e = rw (ne_eqb _ _ e)

  pub one_reach : links ≡ 1 → reach_width links ≡ 3
  unfolding reach_width reach_kind
  one_reach e = rw (eq-eqb _ _ e)

  pub more_reach : (links ≡ 1 → ⊥) → reach_width links ≡ 4
  unfolding reach_width reach_kind
  more_reach e = rw (ne_eqb _ _ e)

  module _ (bytes : List ℕ) (at i : ℕ) where
    pub one_literal : links ≡ 1 → reach_in links bytes at i ≡ literal_in bytes at i
    unfolding reach_in
    one_literal e = rw (eq-eqb _ _ e)

    pub more_literal : (links ≡ 1 → ⊥) → reach_in links bytes at i ≡ linked_in bytes at i
    unfolding reach_in
    more_literal e = rw (ne_eqb _ _ e)

-- there are few links
pub few_links : (l : Layout) (bytes : List ℕ) → Within l bytes → l.links ≤ 3
few_links l bytes w = ⊎_elim (λ e. omega (arith, e)) (λ e. omega (arith, e)) w.one_or_three

-- literal i is within the section
pub literal-fits : (w at i count n : ℕ) → i < count → at + w * count ≤ n → at + w * i + w ≤ n
literal-fits w at i count n h u = omega (arith, mul-suc w i, mul-le-mul (le_refl w) h)

-- Entries of two bytes, and of four

two_more : (m : ℕ) → 2 + m ≡ suc (suc m)
two_more m = omega arith

four_more : (m : ℕ) → 4 + m ≡ suc (suc (suc (suc m)))
four_more m = omega arith

module _ (bytes : List ℕ) (at count : ℕ) where
  firsts_are : at + 2 * count ≤ length bytes → firsts (take (2 * count) (drop at bytes)) ≡ listed (λ j. get_or bytes (at + 2 * j) 0) count 0
  unfolding firsts
  firsts_are = split_are 2 firsts (λ j. get_or bytes (at + 2 * j) 0) bytes at refl (λ j m h. rw (drop_two bytes (at + 2 * j) h, two_more m)) count

  seconds_are : at + 2 * count ≤ length bytes → seconds (take (2 * count) (drop at bytes)) ≡ listed (λ j. get_or bytes (at + 2 * j + 1) 0) count 0
  unfolding seconds
  seconds_are = split_are 2 seconds (λ j. get_or bytes (at + 2 * j + 1) 0) bytes at refl (λ j m h. rw (drop_two bytes (at + 2 * j) h, two_more m)) count

  linked_are : at + 4 * count ≤ length bytes → linked_literals (take (4 * count) (drop at bytes)) ≡ listed (linked_in bytes at) count 0
  unfolding linked_literals
  linked_are = split_are 4 linked_literals (linked_in bytes at) bytes at refl (λ j m h. rw (drop_four bytes (at + 4 * j) h, four_more m)) count

-- Sections 1 and 3, by the number of links

module _ (links : ℕ) (bytes : List ℕ) where
  reach_are : (at count : ℕ) → at + reach_width links * count ≤ length bytes → reach_by links (take (reach_width links * count) (drop at bytes)) ≡ listed (reach_in links bytes at) count 0
  unfolding reach_by
  reach_are at count h = ⊎_elim one (λ d. more d.0 d.1) (eq_cases links 1)
    where
      section : List ℕ
      section = take (reach_width links * count) (drop at bytes)

      listed_as : {f : ℕ → Literal} → ((i : ℕ) → reach_in links bytes at i ≡ f i) → listed f count 0 ≡ listed (reach_in links bytes at) count 0
      listed_as {f} e = sym (ap (λ (g : ℕ → Literal). listed g count 0) (λ i j. e j i))

      one : links ≡ 1 → reach_by links section ≡ listed (reach_in links bytes at) count 0
      one e =
          let read : reach_by links section ≡ listed (literal_in bytes at) count 0 = rw (eq-eqb _ _ e, one_reach e) (literals_are bytes at count (rw (one_reach e) at h)) in
          read ∙ listed_as (λ i. one_literal bytes at i e)

      more : (links ≡ 1 → ⊥) → eqb links 1 ≡ false → reach_by links section ≡ listed (reach_in links bytes at) count 0
      more n e =
          let read : reach_by links section ≡ listed (linked_in bytes at) count 0 = rw (e, more_reach n) (linked_are bytes at count (rw (more_reach n) at h)) in
          read ∙ listed_as (λ i. more_literal bytes at i n)

  module _ (count : ℕ) (h : 1 + entry_width links * count ≤ length bytes) where
    abbrev entries : Entries
    entries = entries_by links (take (entry_width links * count) (drop 1 bytes))

    entries_counted : length entries.terms ≡ count
    unfolding entries_by entry_width entry_kind
    entries_counted = go (eqb links 1) refl h
      where
        go : (b : Bool) → eqb links 1 ≡ b → 1 + entry_width links * count ≤ length bytes → length entries.terms ≡ count
        go true e u = let v = rw e at u in rw e (length-take-le (1 * count) (drop 1 bytes) (rw length-drop (omega (arith, v))) ∙ one-mul count)
        go false e u = rw e (ap length (seconds_are bytes 1 count (rw e at u)) ∙ listed-length _ count)

    entry_are : (t : ℕ) → 1 ≤ t → t ≤ count → entry_in links bytes t ≡ entry_of entries t
    unfolding entries_by entry_width entry_kind entry_in entry_of
    entry_are zero one most = absurd (omega arith)
    entry_are (suc t) one most = go (eqb links 1) refl h
      where
        place : 1 + 2 * t + 1 ≡ 2 * suc t
        place = omega arith

        go : (b : Bool) → eqb links 1 ≡ b → 1 + entry_width links * count ≤ length bytes → entry_in links bytes (suc t) ≡ entry_of entries (suc t)
        go true e u = rw e (sym (get_or-take (1 * count) (drop 1 bytes) t 0 (omega arith) ∙ get_or-drop 1 bytes t 0 ∙ rw one-add))
        go false e u = rw e (sym (rw (seconds_are bytes 1 count (rw e at u)) (listed_get_d _ count t 0 (omega arith) ∙ ap (λ (p : ℕ). get_or bytes p 0) place)))

    link_are : (t : ℕ) → 1 ≤ t → t ≤ count → link_in links bytes t ≡ link_of entries t
    unfolding entries_by entry_width entry_kind link_in link_of
    link_are t one most = go (eqb links 1) refl h
      where
        place : 1 + 2 * (t - 1) ≡ 2 * t - 1
        place = omega arith

        go : (b : Bool) → eqb links 1 ≡ b → 1 + entry_width links * count ≤ length bytes → link_in links bytes t ≡ link_of entries t
        go true e u = rw e refl
        go false e u = rw e (sym (rw (firsts_are bytes 1 count (rw e at u)) (listed_get_d _ count (t - 1) 1 (omega arith) ∙ ap (λ (p : ℕ). get_or bytes p 0) place)))

-- What the query says

module _ (l : Layout) (bytes : List ℕ) (w : Within l bytes) where
  pub terms-said : term_count (said l bytes) ≡ l.terms
  unfolding said term_count
  terms-said = entries_counted l.links bytes l.terms w.entries_fit

  pub entry_said : (t : ℕ) → 1 ≤ t → t ≤ l.terms → entry_in l.links bytes t ≡ entry_of (said l bytes).entries t
  unfolding said
  entry_said = entry_are l.links bytes l.terms w.entries_fit

  pub link_said : (t : ℕ) → 1 ≤ t → t ≤ l.terms → link_in l.links bytes t ≡ link_of (said l bytes).entries t
  unfolding said
  link_said = link_are l.links bytes l.terms w.entries_fit

  pub equalities-said : (said l bytes).equalities ≡ listed (literal_in bytes l.equal_at) l.equal_count 0
  unfolding said
  equalities-said = literals_are bytes l.equal_at l.equal_count w.equal_fit

  pub reachability-said : (said l bytes).reachability ≡ listed (reach_in l.links bytes l.reach_at) l.reach_count 0
  unfolding said
  reachability-said = reach_are l.links bytes l.reach_at l.reach_count w.reach_fit

  pub fields-said : (said l bytes).fields ≡ listed (literal_in bytes l.field_at) l.field_count 0
  unfolding said
  fields-said = literals_are bytes l.field_at l.field_count w.field_fit

-- The form of 01

same_query : {p q : Query} → p.links ≡ q.links → p.entries ≡ q.entries → p.equalities ≡ q.equalities → p.reachability ≡ q.reachability → p.fields ≡ q.fields → p ≡ q
same_query a b c d e = λ i. record { links = a i; entries = b i; equalities = c i; reachability = d i; fields = e i }

module _ {q : Query} (l : Layout) (bytes : List ℕ) (laid : LaysOutAs q l bytes) where
  pub one_within : Within l bytes
  one_within =
      record {
        one_or_three = inl laid.one_link_lem;
        terms_within = laid.terms_within;
        entries_fit = rw (one_entry laid.one_link_lem) (omega (arith, laid.entries_fit));
        equal_within = laid.equal_within;
        equal_fit = laid.equal_fit;
        reach_within = laid.reach_within;
        reach_fit = rw (one_reach laid.one_link_lem) laid.reach_fit;
        field_within = laid.field_within;
        field_fit = laid.field_fit;
      }

  pub one-said : said l bytes ≡ q
  unfolding said entries_by reach_by
  one-said =
      same_query
      (laid.one_link_lem ∙ sym laid.links_are)
      (rw (one_entry laid.one_link_lem, eq-eqb _ _ laid.one_link_lem, one-mul) (sym laid.entries_are))
      (sym laid.equal_are)
      (rw (one_reach laid.one_link_lem, eq-eqb _ _ laid.one_link_lem) (sym laid.reach_are))
      (sym laid.field_are)
