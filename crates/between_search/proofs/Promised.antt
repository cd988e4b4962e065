-- The call keeps its promise (02, R-10).
use Prim.Native.Nat.{ℕ, zero, suc, ◌-◌, ◌≤◌, ◌<◌}
use native.Mathlib.Omega.{arith}
use mathlib.Core.Path.{◌≡◌, refl, sym, ap, ap₂, ◌∙◌, subst, subst₂}
use mathlib.Core.Logic.{◌↔◌, ⊎_elim}
use mathlib.Core.Bool.{true, false, ◌&&◌}
use mathlib.Core.List.Memᴰ
use mathlib.Core.List.{List, [], ◌∷◌, ◌++◌, map, Memᴰ}
use mathlib.Core.Option.{Option, none, some, Option-elim}
use lib.ListN.{length, get_or, replicate, length-map}
use lib.Seq.{ext_get_or}
use lib.Dec.{eqb, ltb}
use borrow.Author.Tests.{ltb-false}
use Rattle.logic.specs.Search.{from, any}
use Rattle.logic.specs.Query.{sections, parts, first_byte, layout_of, decode, term_count}
use Rattle.logic.specs.Facts.{terms}
use Rattle.logic.specs.Heap.{Heap, IsHeap, Meets, Satisfiable, value}
use Rattle.logic.specs.Shown.{heap_in, well_formed}
use Rattle.logic.specs.Calls.{Input, Check, layout_check, byte_check, form_checks, room_under, room_check, one_link_form, Answer}
use Rattle.logic.specs.Calls.{refused, satisfiable, refuted, Outcome, refusal_of, accepts, padded, blank, verdict_call}
use Rattle.logic.specs.Demands.{NotRefused, FirstStands, numbers}
use Rattle.theory.proofs.Basics.Search.{none-some, keep-none, any_alike}
use Rattle.theory.proofs.Completeness.Placed.{length_from}
use Rattle.theory.proofs.Query.AcceptedBytes.{Passes, form-passes, query-passes, laid_out, sections-excesses}
use Rattle.theory.proofs.Calls.CheckingOrder.{first_unique, first_stands, first_refusal, refusal_first}
use Rattle.theory.proofs.Calls.CallLaws.{refusal_of-none, verdict_passed}
use Rattle.theory.proofs.Calls.Refusals.{refused_one, one_link_laws}
use Rattle.theory.proofs.Calls.VerdictCall.{VerdictCase, by_refusal, by_lines, by_model, verdict_case}
use Rattle.theory.proofs.Calls.Demands.{demand2}
use Rattle.theory.proofs.Basics.Count.{get_d_behind}
use Rattle.between.specs.Meaning.{BetweenLiteral, BetweenQuery, MeetsBetween, SatisfiableBetween}
use Rattle.between_search.specs.Bytes.{six_sections, decode_six, five_terms_check, six_checks, between_checks}
use Rattle.between_search.specs.Search.{Found, entry, heap_found, report_of, most_nodes}
use Rattle.between_search.specs.Calls.{given, searched, between_call}
use Rattle.between_search.specs.Promise.{Before, rank, ShowsFirst, BetweenPromised}
use Rattle.between_search.proofs.Growing.{grown_size, grown_entry}
use Rattle.between_search.proofs.Complete.{list_entry}
use Rattle.between_search.proofs.Sound.{links_in, nodes_in, value-is, found_meets}
use Rattle.between_search.proofs.Sizes.{FoundFirst, none_right, some_right, first_right, most_cases}
use Rattle.between_search.proofs.Report.{shown-size, shown-link, shown_loop, shown-variable, shown-node, shown_is, shown_formed, shown-field}
use Rattle.between_search.proofs.OneLink.{AcceptedSix}
use Rattle.between_search.proofs.Accepted.{accepted_six, terms_first}
use Rattle.between_search.proofs.OwnChecks.{many_terms_only, many_terms_stand, little_room_only, little_room-stands}
use Rattle.between_search.proofs.Layouts.{base_same, betweens-none}

-- answers are apart
refused_heap : {k p : ℕ} → satisfiable ≡ refused k p → ⊥
refused_heap e = let z : ◌≡◌ {A = ℕ} 0 1 = cc in omega arith

refused_none : {k p : ℕ} → refuted ≡ refused k p → ⊥
refused_none e = let z : ◌≡◌ {A = ℕ} 0 1 = cc in omega arith

heap_none : satisfiable ≡ refuted → ⊥
heap_none e = let z : ◌≡◌ {A = ℕ} 0 1 = cc in omega arith

-- What the call does: a refusal, or what the search says
data Done (query : List ℕ) (room : ℕ) : Type 0 where
  is_refused : (a : Answer) → refusal_of between_checks (given query room) ≡ some a → between_call query room ≡ blank room a → Done query room
  is_heap : (c : Found) → refusal_of between_checks (given query room) ≡ none → heap_found (decode_six query) ≡ some c →
      between_call query room ≡ record { answer = satisfiable; lent = padded room (report_of (decode_six query) c) } → Done query room
  is_none : refusal_of between_checks (given query room) ≡ none → heap_found (decode_six query) ≡ none → between_call query room ≡ blank room refuted → Done query room

done : (query : List ℕ) (room : ℕ) → Done query room
unfolding between_call searched Option-elim
done query room = go (refusal_of between_checks (given query room)) refl (heap_found (decode_six query)) refl
  where
    go : (o : Option Answer) → refusal_of between_checks (given query room) ≡ o → (f : Option Found) → heap_found (decode_six query) ≡ f → Done query room
    go (some a) e f k = is_refused a e (rw e)
    go none e (some c) k = is_heap c e k (rw (e, k))
    go none e none k = is_none e k (rw (e, k))

answer_of : {o o' : Outcome} → o ≡ o' → o.answer ≡ o'.answer
answer_of e = ap (λ (x : Outcome). x.answer) e

lent_of : {o o' : Outcome} → o ≡ o' → o.lent ≡ o'.lent
lent_of e = ap (λ (x : Outcome). x.lent) e

blank-answer : (room : ℕ) (a : Answer) → (blank room a).answer ≡ a
unfolding blank
blank-answer room a = refl

blank-lent : (room : ℕ) (a : Answer) → (blank room a).lent ≡ replicate room 0
unfolding blank
blank-lent room a = refl

-- where no check stands
module _ (query : List ℕ) (room : ℕ) (passed : refusal_of between_checks (given query room) ≡ none) where
  stands : (c : Check) → Memᴰ c between_checks → c.place (given query room) ≡ none
  stands = refusal_of-none between_checks (given query room) passed

  passes : Passes six_sections query
  unfolding between_checks six_checks
  passes = form-passes six_sections (given query room) (λ c m. stands c (Memᴰ.append_left (room_check ∷ five_terms_check ∷ []) m))

  ok : AcceptedSix (decode_six query)
  ok = accepted_six query passes

  few : term_count (decode_six query).base ≤ 5
  unfolding between_checks five_terms_check
  few = subst (λ (k : ℕ). k ≤ 5) (sym (terms_first query passes)) (ltb-false 5 (first_byte query) (keep-none (ltb 5 (first_byte query)) 0 (stands five_terms_check last)))
    where
      last : Memᴰ five_terms_check between_checks
      last = Memᴰ.append_right six_checks (Memᴰ.tail (Memᴰ.head refl))

  -- the heap shown is the first that meets the query
  module _ (c : Found) (found : heap_found (decode_six query) ≡ some c) where
    f : FoundFirst (decode_six query) ok few c
    f = some_right (decode_six query) ok few c found

    abbrev m : ℕ
    m = f.size

    padded-entry : (xs : List ℕ) (u : ℕ) → entry (padded 17 xs) u ≡ entry xs u
    unfolding entry padded
    padded-entry xs u = get_d_behind xs (17 - length xs) u

    link-is : (v : ℕ) → entry c.links v ≡ entry f.search.links v
    link-is v = ap (λ (x : Found). entry x.links v) f.search.found ∙ padded-entry f.search.links v

    node_is : (t : ℕ) → entry c.nodes t ≡ entry f.search.nodes t
    node_is t = ap (λ (x : Found). entry x.nodes t) f.search.found ∙ padded-entry f.search.nodes t

    size_is : entry c.links 0 ≡ f.size
    unfolding entry
    size_is = link-is 0 ∙ grown_entry _ _ _ f.search.links_grown 0 (omega arith)

    abbrev lent : List ℕ
    lent = padded room (report_of (decode_six query) c)

    abbrev shown : Heap
    shown = heap_in 1 lent

    abbrev n : ℕ
    n = term_count (decode_six query).base

    links_inside : (v : ℕ) → (1 ≤ v) × (v ≤ m) → (1 ≤ entry f.search.links v) × (entry f.search.links v ≤ m)
    links_inside = links_in (decode_six query) ok false m f.search.links f.search.nodes f.search.links_grown f.search.nodes_grown

    nodes_inside : (t : ℕ) → 1 ≤ t → t ≤ n → (1 ≤ entry f.search.nodes t) × (entry f.search.nodes t ≤ m)
    nodes_inside = nodes_in (decode_six query) ok false m f.search.links f.search.nodes f.search.links_grown f.search.nodes_grown

    is : IsHeap shown
    is =
        shown_is (decode_six query) c room m size_is f.some_node
        (λ v r. subst (λ (x : ℕ). (1 ≤ x) × (x ≤ m)) (sym (link-is v)) (links_inside v r))
        (λ t a b. subst (λ (x : ℕ). (1 ≤ x) × (x ≤ m)) (sym (node_is t)) (nodes_inside t a b))

    few_nodes : m ≤ 5
    few_nodes = ⊎_elim (λ z. omega (arith, f.within, z.1)) (λ l. omega (arith, f.within, l.1, few)) (most_cases (term_count (decode_six query).base))

    pub formed : well_formed 1 lent ≡ true
    formed =
        shown_formed (decode_six query) c room m size_is f.some_node (omega (arith, few_nodes)) (omega (arith, few))
        (λ v r. subst (λ (x : ℕ). (1 ≤ x) × (x ≤ m)) (sym (link-is v)) (links_inside v r))
        (λ t a b. subst (λ (x : ℕ). (1 ≤ x) × (x ≤ m)) (sym (node_is t)) (nodes_inside t a b))

    -- the numbers of what is found are small
    pub size_small : entry c.links 0 ≤ 5
    size_small = omega (arith, size_is, few_nodes)

    pub node_small : (t : ℕ) → 1 ≤ t → t ≤ n → entry c.nodes t ≤ 5
    node_small t a b = let r = nodes_inside t a b in omega (arith, node_is t, r.1, few_nodes)

    linked : (v : ℕ) → (1 ≤ v) × (v ≤ m) → shown.link 1 v ≡ entry f.search.links v
    linked v r = shown-link (decode_six query) c room m size_is v r ∙ link-is v

    loops : (k v : ℕ) → (k ≡ 1 → ⊥) → shown.link k v ≡ v
    loops = shown_loop (decode_six query) c room m size_is

    named : (t : ℕ) → 1 ≤ t → t ≤ n → shown.variable t ≡ entry f.search.nodes t
    named t a b = shown-variable (decode_six query) c room m size_is t a b ∙ node_is t

    value-shown : (t : ℕ) → 1 ≤ t → t ≤ n → value shown (decode_six query).base.entries t ≡ entry f.search.nodes t
    value-shown = value-is (decode_six query) ok false m f.search.links f.search.nodes f.search.links_grown f.search.nodes_grown
        f.some_node few_nodes shown is (shown-size (decode_six query) c room m size_is) linked loops named

    meets : MeetsBetween shown (decode_six query)
    meets =
        found_meets (decode_six query) ok false m f.search.links f.search.nodes f.search.links_grown f.search.nodes_grown
        f.some_node few_nodes shown is (shown-size (decode_six query) c room m size_is) linked loops named
        (λ j v r s. shown-field (decode_six query) c room m size_is j v r s ∙ fields-same j v)
      where
        fields-same : (j v : ℕ) → any (λ k. k.plain && eqb k.left j && eqb (entry c.nodes k.right) v) (decode_six query).base.fields ≡ any
            (λ k. k.plain && eqb k.left j && eqb (entry f.search.nodes k.right) v) (decode_six query).base.fields
        fields-same j v = any_alike _ _ (decode_six query).base.fields (λ k i. ap (λ (x : ℕ). k.plain && eqb k.left j && eqb x v) (node_is k.right))

    -- the lists found, as the numbers of the heap shown
    listed : (g : ℕ → ℕ) (k : ℕ) (xs : List ℕ) → length xs ≡ suc k → entry xs 0 ≡ k → ((u : ℕ) → 1 ≤ u → u ≤ k → entry xs u ≡ g u) → xs ≡ k ∷ map g (from k 1)
    unfolding entry
    listed g k xs size first each =
        ext_get_or 0 xs (k ∷ map g (from k 1)) (size ∙ sym (ap suc (length-map (from k 1) g ∙ length_from k 1))) at
      where
        at : (i : ℕ) → i < length xs → get_or xs i 0 ≡ get_or (k ∷ map g (from k 1)) i 0
        at zero h = first
        at (suc i) h = each (suc i) (omega arith) (omega (arith, size)) ∙ sym (list_entry g k (suc i) (omega arith) (omega (arith, size)))

    links_are : f.search.links ≡ m ∷ map (shown.link 1) (from m 1)
    unfolding entry
    links_are = listed (shown.link 1) m f.search.links (grown_size _ _ _ f.search.links_grown ∙ omega arith)
        (grown_entry _ _ _ f.search.links_grown 0 (omega arith)) (λ u a b. sym (linked u (a, b)))

    nodes_are : f.search.nodes ≡ n ∷ map (value shown (decode_six query).base.entries) (from n 1)
    unfolding entry
    nodes_are = listed (value shown (decode_six query).base.entries) n f.search.nodes (grown_size _ _ _ f.search.nodes_grown ∙ omega arith)
        (grown_entry _ _ _ f.search.nodes_grown 0 (omega arith)) (λ u a b. sym (value-shown u a b))

    rank_is : rank (decode_six query) shown ≡ (m ∷ map (shown.link 1) (from m 1)) ++ map (value shown (decode_six query).base.entries) (from n 1)
    unfolding rank terms
    rank_is = ap (λ (k : ℕ). (k ∷ map (shown.link 1) (from k 1)) ++ map (value shown (decode_six query).base.entries) (from n 1)) (shown-size (decode_six query) c room m size_is)

    pub shows_first : ShowsFirst (decode_six query) lent
    shows_first =
        record {
          meets = meets;
          listed = λ t a b. value-shown t a b ∙ sym (shown-node (decode_six query) c room m size_is t a b ∙ node_is t);
          small = subst (λ (k : ℕ). k ≤ most_nodes n) (sym (shown-size (decode_six query) c room m size_is)) f.within;
          first = λ h met b. first_right (decode_six query) ok few c f h met (map (value shown (decode_six query).base.entries) (from n 1)) nodes_are
              (map (shown.link 1) (from m 1)) links_are (length-map (from m 1) (shown.link 1) ∙ length_from m 1) (subst (Before (rank (decode_six query) h)) rank_is b);
        }

-- The fields of the promise

refused_exactly : (query : List ℕ) (room k place : ℕ) → ((between_call query room).answer ≡ refused k place) ↔ FirstStands between_checks (given query room) k place
refused_exactly query room k place = (forth (done query room), back (done query room))
  where
    forth : Done query room → (between_call query room).answer ≡ refused k place → FirstStands between_checks (given query room) k place
    forth (is_refused a e o) h =
        let r = refusal_first between_checks (given query room) a e in
        let s = refused_one (sym r.3 ∙ sym (answer_of o ∙ blank-answer room a) ∙ h) in
        subst₂ (λ (x y : ℕ). FirstStands between_checks (given query room) x y) s.0 s.1 r.2
    forth (is_heap c e f o) h = absurd (refused_heap (sym (answer_of o) ∙ h))
    forth (is_none e f o) h = absurd (refused_none (sym (answer_of o ∙ blank-answer room refuted) ∙ h))

    back : Done query room → FirstStands between_checks (given query room) k place → (between_call query room).answer ≡ refused k place
    back (is_refused a e o) s =
        let r = refusal_first between_checks (given query room) a e in
        let u = first_unique between_checks (given query room) r.0 r.1 k place r.2 s in
        answer_of o ∙ blank-answer room a ∙ r.3 ∙ ap₂ (λ (x y : ℕ). refused x y) u.0 u.1
    back (is_heap c e f o) s = absurd (first_stands between_checks (given query room) k place (refusal_of-none between_checks (given query room) e) s)
    back (is_none e f o) s = absurd (first_stands between_checks (given query room) k place (refusal_of-none between_checks (given query room) e) s)

-- a refusal is what the checks say
module _ (query : List ℕ) (room k place : ℕ) where
  by_checks : (between_call query room).answer ≡ refused k place → refusal_of between_checks (given query room) ≡ some (refused k place)
  by_checks h = first_refusal between_checks (given query room) k place ((refused_exactly query room k place).0 h)

  checks_refuse : refusal_of between_checks (given query room) ≡ some (refused k place) → (between_call query room).answer ≡ refused k place
  checks_refuse e = go (done query room)
    where
      go : Done query room → (between_call query room).answer ≡ refused k place
      go (is_refused a f o) = let same : some a ≡ some (refused k place) = sym f ∙ e in let q : a ≡ refused k place = cc in answer_of o ∙ blank-answer room a ∙ q
      go (is_heap c f g o) = absurd (none-some (sym f ∙ e))
      go (is_none f g o) = absurd (none-some (sym f ∙ e))

checks_in_order : numbers between_checks ≡ 2 ∷ 3 ∷ 26 ∷ 4 ∷ 5 ∷ 6 ∷ 7 ∷ 8 ∷ 9 ∷ 21 ∷ []
unfolding between_checks six_checks form_checks layout_check byte_check room_under five_terms_check
checks_in_order = refl

-- a refusal is one of the checks'
refusal_is : (query : List ℕ) (room : ℕ) (a : Answer) → refusal_of between_checks (given query room) ≡ some a → (k : ℕ) × (p : ℕ) × (a ≡ refused k p)
refusal_is query room a e = let r = refusal_first between_checks (given query room) a e in (r.0, r.1, r.3)

heap_exactly : (query : List ℕ) (room : ℕ) → NotRefused (between_call query room).answer → ((between_call query room).answer ≡ satisfiable) ↔ SatisfiableBetween (decode_six query)
heap_exactly query room not = go (done query room)
  where
    go : Done query room → ((between_call query room).answer ≡ satisfiable) ↔ SatisfiableBetween (decode_six query)
    go (is_refused a e o) = let r = refusal_is query room a e in absurd (not r.0 r.1 (answer_of o ∙ blank-answer room a ∙ r.2))
    go (is_heap c e f o) = (λ h. (heap_in 1 (padded room (report_of (decode_six query) c)), (shows_first query room e c f).meets), λ s. answer_of o)
    go (is_none e f o) = (λ h. absurd (heap_none (sym h ∙ answer_of o ∙ blank-answer room refuted)), λ s. absurd (none_right (decode_six query) (ok query room e) (few query room e) f s.0 s.1))

none_exactly : (query : List ℕ) (room : ℕ) → NotRefused (between_call query room).answer → ((between_call query room).answer ≡ refuted) ↔ (SatisfiableBetween (decode_six query) → ⊥)
none_exactly query room not = go (done query room)
  where
    go : Done query room → ((between_call query room).answer ≡ refuted) ↔ (SatisfiableBetween (decode_six query) → ⊥)
    go (is_refused a e o) = let r = refusal_is query room a e in absurd (not r.0 r.1 (answer_of o ∙ blank-answer room a ∙ r.2))
    go (is_heap c e f o) = (λ h. absurd (heap_none (sym (answer_of o) ∙ h)), λ d. absurd (d (heap_in 1 (padded room (report_of (decode_six query) c)), (shows_first query room e c f).meets)))
    go (is_none e f o) = (λ h s. none_right (decode_six query) (ok query room e) (few query room e) f s.0 s.1, λ d. answer_of o ∙ blank-answer room refuted)

heap_first : (query : List ℕ) (room : ℕ) → (between_call query room).answer ≡ satisfiable → ShowsFirst (decode_six query) (between_call query room).lent
heap_first query room h = go (done query room)
  where
    go : Done query room → ShowsFirst (decode_six query) (between_call query room).lent
    go (is_refused a e o) = let r = refusal_is query room a e in absurd (refused_heap (sym h ∙ answer_of o ∙ blank-answer room a ∙ r.2))
    go (is_heap c e f o) = subst (ShowsFirst (decode_six query)) (sym (lent_of o)) (shows_first query room e c f)
    go (is_none e f o) = absurd (heap_none (sym h ∙ answer_of o ∙ blank-answer room refuted))

report_formed : (query : List ℕ) (room : ℕ) → (between_call query room).answer ≡ satisfiable → well_formed 1 (between_call query room).lent ≡ true
report_formed query room h = go (done query room)
  where
    go : Done query room → well_formed 1 (between_call query room).lent ≡ true
    go (is_refused a e o) = let r = refusal_is query room a e in absurd (refused_heap (sym h ∙ answer_of o ∙ blank-answer room a ∙ r.2))
    go (is_heap c e f o) = subst (λ (bytes : List ℕ). well_formed 1 bytes ≡ true) (sym (lent_of o)) (formed query room e c f)
    go (is_none e f o) = absurd (heap_none (sym h ∙ answer_of o ∙ blank-answer room refuted))

none_blank : (query : List ℕ) (room : ℕ) → (between_call query room).answer ≡ refuted → (between_call query room).lent ≡ replicate room 0
none_blank query room h = go (done query room)
  where
    go : Done query room → (between_call query room).lent ≡ replicate room 0
    go (is_refused a e o) = lent_of o ∙ blank-lent room a
    go (is_heap c e f o) = absurd (heap_none (sym (answer_of o) ∙ h))
    go (is_none e f o) = lent_of o ∙ blank-lent room refuted

refusal_blank : (query : List ℕ) (room k place : ℕ) → (between_call query room).answer ≡ refused k place → (between_call query room).lent ≡ replicate room 0
refusal_blank query room k place h = go (done query room)
  where
    go : Done query room → (between_call query room).lent ≡ replicate room 0
    go (is_refused a e o) = lent_of o ∙ blank-lent room a
    go (is_heap c e f o) = absurd (refused_heap (sym (answer_of o) ∙ h))
    go (is_none e f o) = lent_of o ∙ blank-lent room refuted

-- with no between literal, what satisfies the five sections satisfies the six
base_only : (q : BetweenQuery) → q.betweens ≡ [] → Satisfiable q.base → SatisfiableBetween q
base_only q e s = (s.0, record { meets = s.1; betweens = λ l m. absurd (Memᴰ.not-nil (subst (λ (ls : List BetweenLiteral). Memᴰ l ls) e m)) })

-- a verdict call that is not refused has its five sections laid out
five_laid : (i : Input) → NotRefused (verdict_call i).answer → (ps : List (List ℕ)) × (layout_of i.query ≡ parts ps)
unfolding layout_of
five_laid i five = laid_out sections i.query (sections-excesses (first_byte i.query)) (query-passes i.query (accepted (verdict_case one_link_form one_link_laws i))).layouts
  where
    accepted : VerdictCase one_link_form one_link_laws i (verdict_call i) → accepts i.query ≡ true
    accepted (by_refusal k place u e) = absurd (five k place (answer_of e ∙ blank-answer i.room (refused k place)))
    accepted (by_lines ls w e n) = (verdict_passed one_link_form one_link_laws i n).0.query
    accepted (by_model s w e n) = (verdict_passed one_link_form one_link_laws i n).0.query

shares_verdict : (i : Input) (room : ℕ) → NotRefused (verdict_call i).answer → NotRefused (between_call (i.query ++ (0 ∷ [])) room).answer →
    (between_call (i.query ++ (0 ∷ [])) room).answer ≡ (verdict_call i).answer
shares_verdict i room five six =
    let p = five_laid i five in
    let base = base_same i.query p.0 p.1 in
    let none_between = betweens-none i.query p.0 p.1 in
    let to : SatisfiableBetween (decode_six (i.query ++ (0 ∷ []))) → Satisfiable (decode i.query) = λ s. (s.0, subst (Meets s.0) base s.1.meets) in
    let from_five : Satisfiable (decode i.query) → SatisfiableBetween (decode_six (i.query ++ (0 ∷ []))) = λ s. base_only
    (decode_six (i.query ++ (0 ∷ []))) none_between (s.0, subst (Meets s.0) (sym base) s.1) in
    go (done (i.query ++ (0 ∷ [])) room) to from_five
  where
    go : Done (i.query ++ (0 ∷ [])) room → (SatisfiableBetween (decode_six (i.query ++ (0 ∷ []))) → Satisfiable (decode i.query)) →
        (Satisfiable (decode i.query) → SatisfiableBetween (decode_six (i.query ++ (0 ∷ [])))) →
        (between_call (i.query ++ (0 ∷ [])) room).answer ≡ (verdict_call i).answer
    go (is_refused a e o) to back = let r = refusal_is (i.query ++ (0 ∷ [])) room a e in absurd (six r.0 r.1 (answer_of o ∙ blank-answer room a ∙ r.2))
    go (is_heap c e f o) to back = answer_of o ∙ sym ((demand2.satisfiable_exactly i five).1 (to ((heap_exactly (i.query ++ (0 ∷ [])) room six).0 (answer_of o))))
    go (is_none e f o) to back = answer_of o ∙ blank-answer room refuted
        ∙ sym ((demand2.refuted_exactly i five).1 (λ s. (none_exactly (i.query ++ (0 ∷ [])) room six).0 (answer_of o ∙ blank-answer room refuted) (back s)))

pub between_promised : BetweenPromised
between_promised =
    record {
      refused_exactly = refused_exactly;
      refusal_blank = refusal_blank;
      checks_in_order = checks_in_order;
      many_terms_exactly = λ query room place. (λ h. many_terms_only query room place (by_checks query room 21 place h), λ h. checks_refuse query room 21 place (many_terms_stand query room place h));
      little_room_exactly = λ query room place.
          (λ h. little_room_only query room place (by_checks query room 9 place h), λ h. checks_refuse query room 9 place (little_room-stands query room place h));
      heap_exactly = heap_exactly;
      heap_first = heap_first;
      report_formed = report_formed;
      none_exactly = none_exactly;
      none_blank = none_blank;
      shares_verdict = shares_verdict;
    }
