-- Samples of the call's answers, by computation: E4's listing by order 4 first, one row for each way in which lines can be wrong, and the
-- shortest bytes; and the same by link 2, with the slips that three links allow. Vectors by the hundred are executed by `call_vectors`.
use Rattle.std.specs.Prelude.{ℕ, ◌≡◌, List, [], ◌∷◌, ◌++◌, map}
use Rattle.logic.specs.Calls.{CallForm, one_link_form}
use Rattle.logic.specs.ThreeLinks.{three_link_form}
use Rattle.checking.specs.CheckCall.{Checked, accepted, wrong, refused, check_call_of}

pub record Sample : Type 0 where
  pub form : CallForm
  pub query : List ℕ
  pub derivation : List ℕ
  pub answer : Checked

unfoldable pub sample : List ℕ → List ℕ → Checked → Sample
sample query derivation answer = record { form = one_link_form; query = query; derivation = derivation; answer = answer }

-- with three links
unfoldable pub linked : List ℕ → List ℕ → Checked → Sample
linked query derivation answer = record { form = three_link_form; query = query; derivation = derivation; answer = answer }

-- E4 of 01; its lines 4 1 2 3 and 10 1 3 0
unfoldable pub example4 : List ℕ
example4 = 3 ∷ 0 ∷ 1 ∷ 0 ∷ 1 ∷ 0 ∷ 1 ∷ 3 ∷ 2 ∷ 1 ∷ 1 ∷ 3 ∷ 0 ∷ 2 ∷ 3 ∷ 0 ∷ 0 ∷ []

unfoldable pub opening4 : List ℕ
opening4 = 4 ∷ 1 ∷ 2 ∷ 3 ∷ 10 ∷ 1 ∷ 3 ∷ 0 ∷ []

-- one term with a datum and its negation: a clash stands at the start
unfoldable pub clashing : List ℕ
clashing = 1 ∷ 0 ∷ 0 ∷ 0 ∷ 2 ∷ 0 ∷ 1 ∷ 1 ∷ 1 ∷ 1 ∷ 1 ∷ 0 ∷ []

-- E4 by link 2; the fact that it denies is of this link
unfoldable pub linked4 : ℕ → List ℕ
linked4 denied = 3 ∷ 0 ∷ 0 ∷ 2 ∷ 1 ∷ 0 ∷ 0 ∷ 1 ∷ 0 ∷ 1 ∷ 3 ∷ 2 ∷ 1 ∷ 2 ∷ 1 ∷ 3 ∷ 0 ∷ denied ∷ 2 ∷ 3 ∷ 0 ∷ 0 ∷ []

-- its listing, by the first byte of its rule line
unfoldable pub listing4 : ℕ → List ℕ
listing4 first = 0 ∷ 4 ∷ first ∷ 1 ∷ 2 ∷ 3 ∷ 10 ∷ 1 ∷ 3 ∷ 0 ∷ 9 ∷ 2 ∷ 1 ∷ 0 ∷ 9 ∷ 3 ∷ 2 ∷ 0 ∷ []

unfoldable pub samples : List Sample
samples =
    sample example4 (0 ∷ 4 ∷ (opening4 ++ (9 ∷ 2 ∷ 1 ∷ 0 ∷ 9 ∷ 3 ∷ 2 ∷ 0 ∷ []))) accepted
    -- a branch is missing; lines follow the full tree; a clash without its fact; a join line is left out
    ∷ sample example4 (0 ∷ 3 ∷ (opening4 ++ (9 ∷ 2 ∷ 1 ∷ 0 ∷ []))) (wrong 4)
    ∷ sample example4 (0 ∷ 5 ∷ (opening4 ++ (9 ∷ 2 ∷ 1 ∷ 0 ∷ 9 ∷ 3 ∷ 2 ∷ 0 ∷ 9 ∷ 3 ∷ 2 ∷ 0 ∷ []))) (wrong 5)
    ∷ sample example4 (0 ∷ 4 ∷ (opening4 ++ (9 ∷ 3 ∷ 2 ∷ 0 ∷ 9 ∷ 2 ∷ 1 ∷ 0 ∷ []))) (wrong 3)
    ∷ sample example4 (0 ∷ 3 ∷ 4 ∷ 1 ∷ 2 ∷ 3 ∷ 9 ∷ 2 ∷ 1 ∷ 0 ∷ 9 ∷ 3 ∷ 2 ∷ 0 ∷ []) (wrong 2)
    -- a rule line where a clash stands
    ∷ sample clashing (0 ∷ 2 ∷ 1 ∷ 1 ∷ 0 ∷ 0 ∷ 9 ∷ 4 ∷ 1 ∷ 2 ∷ []) (wrong 1)
    -- no room for a count; a count of none
    ∷ sample clashing [] (refused 20 0)
    ∷ sample clashing (0 ∷ []) (refused 20 0)
    ∷ sample clashing (0 ∷ 0 ∷ []) (wrong 1)
    -- a rule line "gains 16 times (link minus 1)" (02, R-11): by link 2; its link left out; by link 3, which has no such facts; by no link
    ∷ linked (linked4 2) (listing4 20) accepted
    ∷ linked (linked4 2) (listing4 4) (wrong 1)
    ∷ linked (linked4 2) (listing4 36) (wrong 1)
    ∷ linked (linked4 2) (listing4 52) (wrong 1)
    -- a clash with a literal of another link; a branch is missing; a link that is none
    ∷ linked (linked4 3) (listing4 20) (wrong 4)
    ∷ linked (linked4 2) (0 ∷ 3 ∷ 20 ∷ 1 ∷ 2 ∷ 3 ∷ 10 ∷ 1 ∷ 3 ∷ 0 ∷ 9 ∷ 2 ∷ 1 ∷ 0 ∷ []) (wrong 4)
    ∷ linked (linked4 4) (listing4 20) (refused 22 17)
    ∷ []

unfoldable pub computed : Sample → Sample
computed s = record { form = s.form; query = s.query; derivation = s.derivation; answer = check_call_of s.form s.query s.derivation }

-- the statement: each sample comes out so
abbrev pub SamplesHold : Type 0
SamplesHold = map computed samples ≡ samples
