-- The path limit is a theorem.
use Rattle.logic.specs.Calls.{CallForm, one_link_form}
use Rattle.logic.specs.PathLimit.{PathLimit}
use Rattle.theory.proofs.Walks.OurWalk.{walks_unique}
use Rattle.theory.proofs.Walks.Limit.{start_at_most, row_steps, walked, our_walks, our_headed}
use Rattle.theory.proofs.Calls.CallLaws.{FormLaws}
use Rattle.theory.proofs.Calls.Refusals.{one_link_laws}

pub path_limit_of : (f : CallForm) → FormLaws f → PathLimit f
path_limit_of f laws =
    record {
      every_path = λ query a. start_at_most (f.decode query) (laws.accepted_query query a);
      hand_path = λ query picks s m. row_steps (f.decode query) picks s m;
      our_walk_lem = λ query order a. (walked order (f.decode query), our_walks (f.decode query) (laws.accepted_query query a) order, our_headed (f.decode query) order);
      one_ending = λ q order s e e' r r'. walks_unique q order r e' r';
    }

pub path_limit : PathLimit one_link_form
path_limit = path_limit_of one_link_form one_link_laws
