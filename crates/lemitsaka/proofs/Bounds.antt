-- What the calls answer on every input is small: their own numbers, and the numbers and places of their refusals. Assumes nothing.
use Prim.Native.Nat.{ℕ, ◌≤◌, ◌<◌}
use native.Mathlib.Omega.{arith}
use mathlib.Core.Path.{◌≡◌, refl, ap, ◌∙◌, subst}
use mathlib.Core.Logic.{⊎_elim}
use mathlib.Core.Bool.{Bool, true, false, not, cond}
use mathlib.Core.List.Memᴰ
use mathlib.Core.List.{List, [], ◌∷◌, Memᴰ}
use mathlib.Core.Option.{some}
use lib.ListN.{length, get_or}
use lib.Dec.{ltb}
use Rattle.logic.specs.Search.{◌and◌, all, keep}
use Rattle.logic.specs.Query.{four_sections, five_sections, boolean_section, sections, first_byte}
use Rattle.logic.specs.Calls.{Input, Check, layout_check, byte_check, form_checks, query_checks, room_under, CallForm, one_link_form, verdict_checks, refusal_of, padded}
use Rattle.logic.specs.Calls as calls
use Rattle.logic.specs.Demands.{numbers}
use Rattle.logic.specs.Shown.{well_formed}
use Rattle.theory.proofs.Basics.Compare.{le_cases}
use Rattle.theory.proofs.Query.Bytes.{Excesses, three_number}
use Rattle.theory.proofs.Query.AcceptedBytes.{five_excesses, sections-excesses}
use Rattle.theory.proofs.Query.Places.{most}
use Rattle.theory.proofs.Calls.CallLaws.{FormLaws}
use Rattle.theory.proofs.Calls.CheckingOrder.{first_refusal}
use Rattle.theory.proofs.Calls.CallLaws.{Placed}
use Rattle.theory.proofs.Calls.Refusals.{both_placed, one_link_laws, verdict_placed, verdict_early}
use Rattle.checking.specs.CheckCall as checking
use Rattle.checking.specs.Claims.{query_alone, Claims}
use Rattle.checking.proofs.Header.{wrong_limit}
use Rattle.formula.specs.Call as formula
use Rattle.formula.specs.Places.{FirstFault}
use Rattle.formula.specs.ReadingClaims.{checked, present_in}
use Rattle.formula.proofs.ReadingClaims.{reading_claims}
use Rattle.formula.proofs.RefusalClaims.{refusal_claims}
use Rattle.formula.proofs.AnswerClaims.{formula_claims}
use Rattle.between_search.specs.Bytes.{between_section, six_sections, six_checks, five_terms_check, between_checks}
use Rattle.between_search.specs.Calls.{between_call}
use Rattle.between_search.specs.Calls as between
use Rattle.between_search.proofs.Accepted.{six_excesses}
use Rattle.between_search.proofs.Promised.{between_promised}
use Rattle.encoding.specs.WritingCall.{Writing, writing_checks, writing_call, WritingRefusals}
use Rattle.encoding.specs.WritingCall as writing
use Rattle.rewriting.specs.OldQuery.{old_sections}
use Rattle.rewriting.specs.Call.{rewriting_old, rewrite_call}
use Rattle.rewriting.specs.Claims as old
use Rattle.rewriting.proofs.Claims as rewriting
use Rattle.link_rewriting.specs.Call.{rewriting_links, links_rewrite_call}
use Rattle.link_rewriting.specs.Claims as linked
use Rattle.link_rewriting.proofs.Claims as link_rewriting
use Rattle.ordering.specs.Calls.{order_call}
use Rattle.ordering.specs.Calls as ordering
use Rattle.ordering.specs.Promise.{Means}
use Rattle.ordering.proofs.Promised.{call_promised}
use Rattle.drawing.specs.Text.{text}
use Rattle.drawing.specs.Call.{dot_call}
use Rattle.drawing.specs.Call as drawing
use Rattle.drawing.proofs.Longest.{text_longest}
use Rattle.answer_codes.proofs.Returned.{Small, Counted, OfQuery}
use Rattle.lemitsaka.proofs.Places.{refusal_number, numbers_within, zero-placed, form_placed, form_refusal}

-- The forms of query, and the bytes of the longest of each

pub one_most : (n : ℕ) → most (sections n) ≡ 561
unfolding most sections five_sections four_sections boolean_section
one_most n = refl

pub query-refusal : (i : Input) (k place : ℕ) → refusal_of query_checks i ≡ some (calls.refused k place) → OfQuery k place
unfolding query_checks
query-refusal i k place h = form_refusal sections 561 one_most sections-excesses (omega arith) i k place h

-- The checking call of either form: a wrong line's number is 1 to 16,001

module _ (f : CallForm) (laws : FormLaws f) (claims : Claims f) (short : f.longest ≤ 637) (query derivation : List ℕ) where
  pub check_counted : (n : ℕ) → checking.check_call_of f query derivation ≡ checking.wrong n → Counted n
  check_counted n e = ((claims.wrong_placed query derivation n e).0, omega (arith, wrong_limit f claims query derivation n e))

  pub check_refused : (k place : ℕ) → checking.check_call_of f query derivation ≡ checking.refused k place → Small k place
  check_refused k place e =
      ⊎_elim by_query
      (λ m. ⊎_elim at_twenty (λ n. absurd (Memᴰ.not-nil n)) (Memᴰ.cases_cons m))
      (Memᴰ.append_cases (numbers f.checks) (claims.refusal_numbered query derivation k place e))
    where
      by_query : Memᴰ k (numbers f.checks) → Small k place
      by_query m =
          let u = (laws.early k m).0 in
          let h = first_refusal f.checks (query_alone query) k place ((claims.refused_exactly query derivation k place m).0 e) in
          let p = laws.placed (query_alone query) k place h in
          (u.0, ⊎_elim (λ l. omega (arith, l)) (λ l. omega (arith, l)) u.1, omega (arith, p.1, short))

      at_twenty : k ≡ 20 → Small k place
      at_twenty q =
          let z = ((claims.shape_exactly query derivation place).0 (e ∙ ap (λ (j : ℕ). checking.refused j place) q)).0 in
          (omega arith, omega arith, omega arith)

-- The formula call: a conjunction's number is 1 to 64, a place in the text at most 512

pub formula_counted : (i : formula.Input) (n : ℕ) → (formula.formula_call i).answer ≡ formula.conjunction n → Counted n
formula_counted i n e = let r = (formula_claims i).answer_numbered n e in (r.0, omega (arith, r.1))

module _ (i : formula.Input) (place : ℕ) where
  in_text : (k : ℕ) → length i.text ≤ 512 → FirstFault (present_in i) i.text k place → place ≤ 512
  in_text k l f = omega (arith, ((reading_claims (present_in i) i.text).refused_as k place f).1)

  text_refused : (k : ℕ) → (17 ≤ k) × (k ≤ 19) → (formula.formula_call i).answer ≡ formula.refused k place → place ≤ 512
  text_refused k h e =
      let c = refusal_claims i in
      let as_number : (j : ℕ) → k ≡ j → (formula.formula_call i).answer ≡ formula.refused j place = λ j q. e ∙ ap (λ (x : ℕ). formula.refused x place) q in
      ⊎_elim
      (λ low. ⊎_elim (λ r. omega (arith, r.1)) (λ r. in_text 17 r.0 r.1) ((c.refused_17 place).0 (as_number 17 (omega arith))).1)
      (λ high. ⊎_elim
      (λ low. let r = (c.refused_18 place).0 (as_number 18 (omega arith)) in in_text 18 r.1 r.2)
      (λ above. omega (arith, ((c.refused_19 place).0 (as_number 19 (omega arith))).3))
      (le_cases k 18))
      (le_cases k 17)

  pub formula_refused : (k : ℕ) → (formula.formula_call i).answer ≡ formula.refused k place → Small k place
  formula_refused k e =
      ⊎_elim
      (λ m.
      let h = first_refusal verdict_checks (checked i) k place (((refusal_claims i).checks_first k place m).0 e) in
      let u = verdict_early one_link_form one_link_laws k m in
      (u.0, ⊎_elim (λ l. omega arith) (λ l. omega arith) u.1, omega (arith, (verdict_placed one_link_form one_link_laws (checked i) k place h).1)))
      (λ h. (omega arith, omega arith, omega (arith, text_refused k h e)))
      ((refusal_claims i).refusal_numbered k place e)

-- The between call: a place is at most 802, the bytes of the longest query of six sections

six_most : (n : ℕ) → most (six_sections n) ≡ 802
unfolding most six_sections between_section sections five_sections four_sections boolean_section
six_most n = refl

between_last : (i : Input) (c : Check) → Memᴰ c (room_under 53 ∷ five_terms_check ∷ []) → (b : Bool) × (c.place i ≡ keep b 0)
unfolding room_under five_terms_check
between_last i c m =
    ⊎_elim (λ e. (ltb i.room 53, ap (λ (d : Check). d.place i) e))
    (λ n. ⊎_elim (λ e. (ltb 5 (first_byte i.query), ap (λ (d : Check). d.place i) e)) (λ o. absurd (Memᴰ.not-nil o)) (Memᴰ.cases_cons n))
    (Memᴰ.cases_cons m)

pub between-placed : (i : Input) → Placed 802 between_checks i
unfolding between_checks six_checks
between-placed i =
    both_placed 802 (form_checks six_sections) (room_under 53 ∷ five_terms_check ∷ []) i (form_placed six_sections 802 six_most six_excesses i)
    (λ n. zero-placed 802 (room_under 53 ∷ five_terms_check ∷ []) i (between_last i))

between_number : (k : ℕ) → Memᴰ k (numbers between_checks) → (1 ≤ k) × (k ≤ 27)
unfolding between_checks six_checks room_under five_terms_check form_checks layout_check byte_check all ◌and◌
between_number = numbers_within (numbers between_checks) refl

pub between_refused : (query : List ℕ) (room k place : ℕ) → (between_call query room).answer ≡ calls.refused k place → Small k place
between_refused query room k place e =
    let h = first_refusal between_checks (between.given query room) k place ((between_promised.refused_exactly query room k place).0 e) in
    let n = between_number k (refusal_number between_checks (between.given query room) k place h) in
    (n.0, omega (arith, n.1), omega (arith, (between-placed (between.given query room) k place h).1))

-- The rewritings: a place is at most the length of the longest query that they take

module _ (w : Writing) (longest : ℕ) (most_form : (n : ℕ) → most (w.form n) ≡ longest) (excesses : (n : ℕ) → Excesses (w.form n)) (short : longest < 65536) where
  writing_last : (i : Input) (c : Check) → Memᴰ c (writing.room_check w ∷ []) → (b : Bool) × (c.place i ≡ keep b 0)
  unfolding writing.room_check
  writing_last i c m =
      ⊎_elim (λ e. (not (w.has_room i.room i.query), ap (λ (d : Check). d.place i) e)) (λ o. absurd (Memᴰ.not-nil o)) (Memᴰ.cases_cons m)

  writing_placed : (i : Input) → Placed longest (writing_checks w) i
  unfolding writing_checks
  writing_placed i =
      both_placed longest (form_checks w.form) (writing.room_check w ∷ []) i (form_placed w.form longest most_form excesses i)
      (λ n. zero-placed longest (writing.room_check w ∷ []) i (writing_last i))

  writing_number : (k : ℕ) → Memᴰ k (numbers (writing_checks w)) → (1 ≤ k) × (k ≤ 27)
  unfolding writing_checks writing.room_check form_checks layout_check byte_check all ◌and◌
  writing_number = numbers_within (numbers (writing_checks w)) refl

  pub writing_refused : (NoRoom : ℕ → List ℕ → Type 0) (bytes : List ℕ) (room : ℕ) → WritingRefusals w NoRoom bytes room
      → (k place : ℕ) → (writing_call w bytes room).answer ≡ writing.refused k place → Small k place
  writing_refused NoRoom bytes room law k place e =
      let h = first_refusal (writing_checks w) (writing.given bytes room) k place ((law.first_exactly k place).0 e) in
      let n = writing_number k (refusal_number (writing_checks w) (writing.given bytes room) k place h) in
      (n.0, omega (arith, n.1), omega (arith, short, (writing_placed (writing.given bytes room) k place h).1))

old_most : (n : ℕ) → most (old_sections n) ≡ 681
unfolding most old_sections five_sections four_sections boolean_section
old_most n = refl

old_excesses : (n : ℕ) → Excesses (old_sections n)
unfolding old_sections
old_excesses = five_excesses 60 3 three_number

pub rewrite_refused : (bytes : List ℕ) (room k place : ℕ) → (rewrite_call bytes room).answer ≡ writing.refused k place → Small k place
rewrite_refused bytes room = writing_refused rewriting_old 681 old_most old_excesses (omega arith) old.NoRoom bytes room ((rewriting.claims).refusals bytes room).writing_refusals

pub links_rewrite_refused : (bytes : List ℕ) (room k place : ℕ) → (links_rewrite_call bytes room).answer ≡ writing.refused k place → Small k place
links_rewrite_refused bytes room = writing_refused rewriting_links 561 one_most sections-excesses (omega arith) linked.NoRoom bytes room ((link_rewriting.claims).refusals bytes room)

-- The precedence call and the dot call: every place is 0

pub order_refused : (sheet : List ℕ) (room k place : ℕ) → (order_call sheet room).answer ≡ ordering.refused k place → Small k place
order_refused sheet room k place e =
    let m = subst (λ (a : ordering.Answer). Means sheet room a (order_call sheet room).lent) e (call_promised sheet room).means in
    let z = m.1 in
    ⊎_elim (λ x. let q = x.0 in (omega arith, omega arith, omega arith))
    (⊎_elim (λ x. let q = x.0 in (omega arith, omega arith, omega arith)) (λ x. let q = x.0 in (omega arith, omega arith, omega arith))) m.0

-- the answers of the dot call: the text's length, or 13 or 14 at 0
data DotAnswers (report : List ℕ) : drawing.Answer → Type 0 where
  drawn : well_formed 1 report ≡ true → DotAnswers report (drawing.written (length (text report)))
  unformed : DotAnswers report (drawing.refused 13 0)
  short : DotAnswers report (drawing.refused 14 0)

dot_answers : (report : List ℕ) (room : ℕ) → DotAnswers report (dot_call report room).answer
unfolding dot_call drawing.drawn drawing.refusal
dot_answers report room = by_form (well_formed 1 report) refl
  where
    written : drawing.Outcome
    written = record { answer = drawing.written (length (text report)); lent = padded room (text report) }

    by_room : well_formed 1 report ≡ true → (b : Bool) → DotAnswers report (cond b (drawing.refusal room 14) written).answer
    by_room f true = short
    by_room f false = drawn f

    by_form : (b : Bool) → well_formed 1 report ≡ b → DotAnswers report (cond b (drawing.drawn room (text report)) (drawing.refusal room 13)).answer
    by_form true f = by_room f (ltb room (length (text report)))
    by_form false f = unformed

pub dot_refused : (report : List ℕ) (room k place : ℕ) → (dot_call report room).answer ≡ drawing.refused k place → Small k place
dot_refused report room k place e = go (dot_call report room).answer e (dot_answers report room)
  where
    go : (a : drawing.Answer) → a ≡ drawing.refused k place → DotAnswers report a → Small k place
    go a q (drawn f) = absurd (let z : ◌≡◌ {A = ℕ} 0 1 = cc in omega arith)
    go a q unformed = let x : 13 ≡ k = cc in let y : 0 ≡ place = cc in (omega arith, omega arith, omega arith)
    go a q short = let x : 14 ≡ k = cc in let y : 0 ≡ place = cc in (omega arith, omega arith, omega arith)

-- the report is bytes, each below 256
pub dot_short : (report : List ℕ) (room : ℕ) → ((i : ℕ) → get_or report i 0 < 256) → (n : ℕ) → (dot_call report room).answer ≡ drawing.written n → n ≤ 508
dot_short report room below n e = go (dot_call report room).answer e (dot_answers report room)
  where
    go : (a : drawing.Answer) → a ≡ drawing.written n → DotAnswers report a → n ≤ 508
    go a q (drawn f) = let x : length (text report) ≡ n = cc in omega (arith, text_longest report (record { formed = f; below = below }))
    go a q unformed = absurd (let z : ◌≡◌ {A = ℕ} 0 1 = cc in omega arith)
    go a q short = absurd (let z : ◌≡◌ {A = ℕ} 0 1 = cc in omega arith)
