-- The demands, the path limit and the rest hold of the calls for three links (02, R-11): each is the general claim, of that form of query.
use Prim.Native.Nat.{ℕ, ◌≤◌}
use native.Mathlib.Omega.{arith}
use mathlib.Core.Path.{◌≡◌, refl, sym, ap, ◌∙◌, subst}
use mathlib.Core.Logic.{⊎_elim}
use mathlib.Core.Bool.{true, not, false≢true}
use mathlib.Core.List.Memᴰ
use mathlib.Core.List.{List, [], ◌∷◌, ◌++◌, map, Memᴰ}
use mathlib.Core.Option.{some}
use lib.Dec.{eqb}
use Rattle.logic.specs.Search.{◌and◌, ◌or◌, from, all}
use Rattle.logic.specs.Query.{Layout, faulty, parts, layout_by, layout_fault, byte_fault}
use Rattle.logic.specs.Calls.{Input, Check, order_check, layout_check, byte_check, room_under, verdict_checks_of, derivation_checks_of, accepts_by}
use Rattle.logic.specs.Demands.{NoneStands, numbers, Demand1, Demand2, Demand3}
use Rattle.logic.specs.PathLimit.{PathLimit}
use Rattle.logic.specs.Decision.{PathsDecided}
use Rattle.logic.specs.Reordering.{JoinsAgree}
use Rattle.logic.specs.JoinPairs.{PairsAccount, PairsReplay}
use Rattle.logic.specs.ThreeLinks.{link_sections, link_fault, link_check, link_checks, linked_query, decode_links, three_link_form, LinkChecksInOrder}
use Rattle.theory.proofs.Basics.Search.{is_some-false, not-true, all_true, map-mem, map_intro, from-mem, from_intro}
use Rattle.theory.proofs.Query.Bytes.{layout_numbers, LayoutNumber}
use Rattle.theory.proofs.Query.Places.{layout-place_of, byte_place_of}
use Rattle.theory.proofs.Query.ThreeLinks.{LinksPass, passed_accepted, link_sections_excesses, link-most, link-place}
use Rattle.theory.proofs.Calls.CheckingOrder.{Early, early_of}
use Rattle.theory.proofs.Calls.CallLaws.{Placed, FormLaws, refusal_of-some, refusal_of-none}
use Rattle.theory.proofs.Calls.Refusals.{refused_one, both_placed}
use Rattle.theory.proofs.Calls.Demands.{demand1_of, demand2_of, demand3_of}
use Rattle.theory.proofs.Calls.PathLimit.{path_limit_of}
use Rattle.theory.proofs.Calls.Decision.{paths_decided_of}
use Rattle.theory.proofs.Calls.Reordering.{joins_agree_of}
use Rattle.theory.proofs.Calls.JoinPairs.{pairs_account_of, pairs_replay_of}

-- the checks, by kind
layout_checks : List Check
layout_checks = map (layout_check link_sections) layout_numbers

byte_checks : List Check
byte_checks = map (byte_check link_sections) (from 4 5)

checks_are : link_checks ≡ layout_checks ++ (link_check ∷ byte_checks)
unfolding link_checks layout_checks byte_checks layout_numbers from
checks_are = refl

-- what holds of each kind of check holds of all
checks_elim : (P : Check → Type 0) → ((k : ℕ) → LayoutNumber k → P (layout_check link_sections k)) → P link_check →
    ((k : ℕ) → 5 ≤ k → k ≤ 8 → P (byte_check link_sections k)) → (c : Check) → Memᴰ c link_checks → P c
unfolding layout_checks byte_checks
checks_elim P l m b c i =
    ⊎_elim
    (λ n. let (k, o, e) = map-mem (layout_check link_sections) c layout_numbers n in subst P (sym e) (l k o))
    (λ n. ⊎_elim (λ e. subst P (sym e) m)
    (λ n'. let (k, o, e) = map-mem (byte_check link_sections) c (from 4 5) n' in let u = from-mem 4 5 k o in subst P (sym e) (b k u.0 (omega (arith, u))))
    (Memᴰ.cases_cons n))
    (Memᴰ.append_cases layout_checks (subst (λ (cs : List Check). Memᴰ c cs) checks_are i))

layout_own : (k : ℕ) → LayoutNumber k → Memᴰ (layout_check link_sections k) link_checks
unfolding layout_checks
layout_own k m = subst (λ (cs : List Check). Memᴰ (layout_check link_sections k) cs) (sym checks_are) (Memᴰ.append_left (link_check ∷ byte_checks) (map_intro (layout_check link_sections) k m))

link_own : Memᴰ link_check link_checks
link_own = subst (λ (cs : List Check). Memᴰ link_check cs) (sym checks_are) (Memᴰ.append_right layout_checks (Memᴰ.head refl))

byte_own : (k : ℕ) → 5 ≤ k → k ≤ 8 → Memᴰ (byte_check link_sections k) link_checks
unfolding byte_checks
byte_own k l u = subst (λ (cs : List Check). Memᴰ (byte_check link_sections k) cs) (sym checks_are)
    (Memᴰ.append_right layout_checks (Memᴰ.tail (map_intro (byte_check link_sections) k (from_intro 4 5 k l (omega arith)))))

link_passes : (bytes : List ℕ) → accepts_by three_link_form bytes ≡ true → LinksPass bytes
unfolding accepts_by layout_check byte_check link_check
link_passes bytes a =
    let i : Input = record { order = []; query = bytes; room = 0 } in
    let free = refusal_of-none link_checks i (is_some-false _ (not-true a)) in
    record {
      layouts = λ k m. free (layout_check link_sections k) (layout_own k m);
      link_free = free link_check link_own;
      single = λ k l u. free (byte_check link_sections k) (byte_own k l u);
    }

three_links : (l : Layout) → (linked_query l).links ≡ 3
unfolding linked_query
three_links (faulty k place) = refl
three_links (parts ps) = refl

link_local : (i j : Input) → i.query ≡ j.query → (c : Check) → Memᴰ c link_checks → c.place i ≡ c.place j
unfolding layout_check byte_check link_check
link_local i j e =
    checks_elim (λ (c : Check). c.place i ≡ c.place j) (λ k m. ap (layout_fault link_sections k) e)
    (ap (λ (q : List ℕ). link_fault (layout_by link_sections q)) e) (λ k l u. ap (byte_fault link_sections k) e)

link_placed : (i : Input) → Placed 637 link_checks i
unfolding layout_check byte_check link_check layout_checks byte_checks
link_placed i =
    subst (λ (cs : List Check). Placed 637 cs i) (sym checks_are)
    (both_placed 637 layout_checks (link_check ∷ byte_checks) i front (λ passed. both_placed 637 (link_check ∷ []) byte_checks i at_link (λ m. single passed)))
  where
    front : Placed 637 layout_checks i
    front k place h =
        let (c, m, (p, s, q)) = refusal_of-some layout_checks i _ h in
        let (j, n, e) = map-mem (layout_check link_sections) c layout_numbers m in
        layout-place_of link_sections 637 link-most link_sections_excesses j i.query place (sym (ap (λ (x : Check). x.place i) e) ∙ s ∙ ap some (sym (refused_one q).1))

    at_link : Placed 637 (link_check ∷ []) i
    at_link k place h =
        let (c, m, (p, s, q)) = refusal_of-some (link_check ∷ []) i _ h in
        let own = ⊎_elim (λ o. o) (λ o. absurd (Memᴰ.not-nil o)) (Memᴰ.cases_cons m) in
        link-place i.query place (sym (ap (λ (x : Check). x.place i) own) ∙ s ∙ ap some (sym (refused_one q).1))

    single : NoneStands layout_checks i → Placed 637 byte_checks i
    single passed k place h =
        let (c, m, (p, s, q)) = refusal_of-some byte_checks i _ h in
        let (j, n, e) = map-mem (byte_check link_sections) c (from 4 5) m in
        byte_place_of link_sections 637 link-most link_sections_excesses j i.query place
        (λ l o. passed (layout_check link_sections l) (map_intro (layout_check link_sections) l o))
        (sym (ap (λ (x : Check). x.place i) e) ∙ s ∙ ap some (sym (refused_one q).1))

link_early : (k : ℕ) → Memᴰ k (numbers link_checks) → (Early k) × (k ≡ 9 → ⊥)
unfolding link_checks link_check layout_check byte_check all ◌and◌ ◌or◌
link_early k m = (early_of (numbers link_checks) refl k m, λ e. false≢true (subst (λ (x : ℕ). not (eqb x 9) ≡ true) e (all_true (λ x. not (eqb x 9)) k {xs = numbers link_checks} refl m)))

pub three_link_laws : FormLaws three_link_form
unfolding decode_links
three_link_laws =
    record {
      accepted_query = λ bytes a. passed_accepted bytes (link_passes bytes a);
      same_links = λ bytes. three_links (layout_by link_sections bytes);
      local = link_local;
      early = link_early;
      placed = link_placed;
      roomy = omega arith;
    }

pub link_checks_in_order : LinkChecksInOrder
unfolding verdict_checks_of derivation_checks_of link_checks link_check order_check layout_check byte_check room_under
link_checks_in_order = record { verdict_checks = refl; derivation_checks = refl }

-- "Verdict, agreement and path length .. are shown once over any link"
pub links_demand1 : Demand1 three_link_form
links_demand1 = demand1_of three_link_form three_link_laws

pub links_demand2 : Demand2 three_link_form
links_demand2 = demand2_of three_link_form three_link_laws

pub links_demand3 : Demand3 three_link_form
links_demand3 = demand3_of three_link_form three_link_laws

pub links_path_limit : PathLimit three_link_form
links_path_limit = path_limit_of three_link_form three_link_laws

pub links_paths_decided : PathsDecided three_link_form
links_paths_decided = paths_decided_of three_link_form three_link_laws

pub links_joins_agree : JoinsAgree three_link_form
links_joins_agree = joins_agree_of three_link_form three_link_laws

pub links_pairs_account : PairsAccount three_link_form
links_pairs_account = pairs_account_of three_link_form three_link_laws

pub links_pairs_replay : PairsReplay three_link_form
links_pairs_replay = pairs_replay_of three_link_form three_link_laws
