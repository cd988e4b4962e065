-- The pairs account for what joining makes of every path of a walk, and replay it in order.
use Rattle.logic.specs.Query.{term_count}
use Rattle.logic.specs.Calls.{CallForm, one_link_form}
use Rattle.logic.specs.JoinPairs.{PairsAccount, PairsReplay}
use Rattle.logic.proofs.JoinPairs.{replays_one}
use Rattle.theory.proofs.Paths.Applies.{applies_linked, applies_met}
use Rattle.theory.proofs.Paths.Invariant.{alternatives-live}
use Rattle.theory.proofs.Joins.Pairs.{accounts_branch, accounts_start, start_followed}
use Rattle.theory.proofs.Joins.Replay.{replays_branch, replays_start, replaced_branch, replaced_start}
use Rattle.theory.proofs.Calls.CallLaws.{FormLaws}
use Rattle.theory.proofs.Calls.Refusals.{one_link_laws}
use Rattle.theory.proofs.Calls.Reordering.{held_sane}

pub pairs_account_of : (f : CallForm) → FormLaws f → PairsAccount f
pairs_account_of f laws =
    record {
      start_pairs = λ query a. accounts_start (f.decode query) (laws.accepted_query query a);
      start_followed = λ query a. start_followed (f.decode query) (laws.accepted_query query a);
      branch_pairs = λ query s m c a h app mem.
          let n = term_count (f.decode query) in
          let r = (held_sane (f.decode query) (laws.accepted_query query a) s h).ranged in
          accounts_branch n s c
          (alternatives-live n s r m (applies_linked n s m app) (applies_met n s m app) c mem) r;
    }

pub pairs_account : PairsAccount one_link_form
pairs_account = pairs_account_of one_link_form one_link_laws

pub pairs_replay_of : (f : CallForm) → FormLaws f → PairsReplay f
pairs_replay_of f laws =
    record {
      start_replays = λ query a. replays_start (f.decode query) (laws.accepted_query query a);
      branch_replays = λ query s m c a h app mem.
          let n = term_count (f.decode query) in
          let sane = held_sane (f.decode query) (laws.accepted_query query a) s h in
          replays_branch n s c
          (alternatives-live n s sane.ranged m (applies_linked n s m app) (applies_met n s m app) c mem) sane;
      one_replay = λ n s end end' given pairs pairs' r r'. replays_one n r pairs' end' r';
      branch_facts = replaced_branch;
      start_facts = replaced_start;
    }

pub pairs_replay : PairsReplay one_link_form
pairs_replay = pairs_replay_of one_link_form one_link_laws
