-- Alternatives that facts exclude, and rules that they refute.
use Prim.Native.Nat.{ℕ, suc, ◌<◌}
use native.Mathlib.Omega.{arith}
use mathlib.Core.Path.{◌≡◌, refl, sym, ap, ◌∙◌, subst}
use mathlib.Core.Bool.{Bool, true, false, true≢false}
use mathlib.Core.Logic.{⊎_elim}
use mathlib.Core.List.Memᴰ
use mathlib.Core.List.{List, [], ◌∷◌, Memᴰ}
use lib.ListN.{length, get_or}
use Rattle.logic.specs.Query.{Query}
use Rattle.logic.specs.Facts.{Graph, Facts, Joined}
use Rattle.logic.specs.Rules.{Rule, REFLEX, TRANS1, TRANS2, FUNC, CYCLE, SCC, TOTAL, SHARE, triple, Move, move, Fact, equal, alternatives, applies, branch, add}
use Rattle.facts.specs.Path.{rep_of, path_of, links_by, HasLink}
use Rattle.facts.specs.declared.Facts as code
use Rattle.joins.specs.Pairs.{joined_of}
use Rattle.joins.specs.declared.Joined as made
use Rattle.rules.specs.Tests.{is_not_cycle}
use Rattle.theory.proofs.Paths.Applies.{applies_met}
use Rattle.alternatives.specs.Alternatives.{count_of, alternative_at}
use Rattle.alternatives.proofs.Alternatives.{count_is, alternative_is}
use Rattle.alternatives.proofs.Steps.{alternative_record}
use Rattle.covering.specs.Covers.{Covers}
use Rattle.nogoods.specs.Nogoods.{Nogood, Excludes, ExcludesAll}
use Rattle.nogoods.proofs.Nogoods.{bounded, nogood_covered, excludes_covered, excludes_branch, nogood_rule}

-- the first byte of the names is what stands for 0
pub path_zero : (p : code.Facts) → get_or p.rep 0 0 ≡ 0 → (path_of p).rep 0 ≡ 0
unfolding path_of rep_of
path_zero p e = e

-- the branch that an alternative makes holds a nogood
pub excludes_made : (n : ℕ) (s : Facts) (c : Fact) (j : made.Joined) (p d : code.Facts) → p ≡ j.facts → joined_of j ≡ branch n s c → get_or p.rep 0 0 ≡ 0 → Covers (path_of p) (path_of d) → (q : Query) → Nogood q (path_of d) → Excludes q s c
unfolding add
excludes_made n s c j p d same is unmoved cov q none =
    let e : path_of p ≡ add n s c = ap path_of same ∙ ap (λ (x : Joined). x.facts) is in
    excludes_branch q n s c (ap (λ (x : Facts). x.rep 0) (sym e) ∙ path_zero p unmoved) (subst (Nogood q) e (nogood_covered q (path_of p) (path_of d) (bounded d) cov none))

-- the alternatives of a rule other than CYCLE do not ask how links go
pub alternative_any : (k n : ℕ) (g g' : Graph) (r : Rule) (x y z i : ℕ) → is_not_cycle r ≡ true → alternative_at k n g r x y z i ≡ alternative_at k n g' r x y z i
unfolding is_not_cycle
alternative_any k n g g' REFLEX x y z i e = refl
alternative_any k n g g' TRANS1 x y z i e = refl
alternative_any k n g g' TRANS2 x y z i e = refl
alternative_any k n g g' FUNC x y z i e = refl
alternative_any k n g g' CYCLE x y z i e = absurd (true≢false (sym e))
alternative_any k n g g' SCC x y z i e = refl
alternative_any k n g g' TOTAL x y z i e = refl
alternative_any k n g g' SHARE x y z i e = refl

-- those of two paths are the same where their links are, or none is asked for
pub alternative_same : (k n : ℕ) (s t : code.Facts) → HasLink (path_of s) k → HasLink (path_of t) k → (r : Rule) → (is_not_cycle r ≡ false → s.link ≡ t.link) → (x y z i : ℕ) → alternative_at k n ((path_of s).graph k) r x y z i ≡ alternative_at k n ((path_of t).graph k) r x y z i
alternative_same k n s t h h' r same x y z i = go (is_not_cycle r) refl
  where
    go : (b : Bool) → is_not_cycle r ≡ b → alternative_at k n ((path_of s).graph k) r x y z i ≡ alternative_at k n ((path_of t).graph k) r x y z i
    go true e = alternative_any k n ((path_of s).graph k) ((path_of t).graph k) r x y z i e
    go false e =
        sym (alternative_record k n s h r x y z i)
        ∙ ap (λ (l : List ℕ). alternative_at k n (links_by l k) r x y z i) (same e)
        ∙ alternative_record k n t h' r x y z i

pub excludes_same : (q : Query) (s : Facts) (c c' : Fact) → c ≡ c' → Excludes q s c → Excludes q s c'
excludes_same q s c c' e = subst (Excludes q s) e

-- facts of as many links as a path
pub links_kept : (k : ℕ) (s t : code.Facts) → s.single ≡ t.single → HasLink (path_of t) k → HasLink (path_of s) k
unfolding path_of
links_kept k s t e (l, m) = (l, rw e m)

-- what facts exclude of their own alternative they exclude of the path's
pub excludes_there : (k n : ℕ) (s t d : code.Facts) → HasLink (path_of s) k → HasLink (path_of t) k → (r : Rule) → (is_not_cycle r ≡ false → s.link ≡ t.link) → (x y z i : ℕ) → {P : Type 0} → P × ((q : Query) → Nogood q (path_of d) → Excludes q (path_of s) (alternative_at k n ((path_of s).graph k) r x y z i)) → P × ((q : Query) → Nogood q (path_of d) → Excludes q (path_of s) (alternative_at k n ((path_of t).graph k) r x y z i))
excludes_there k n s t d h h' r same x y z i (p, f) = (p, λ q none. excludes_same q (path_of s) _ _ (alternative_same k n s t h h' r same x y z i) (f q none))

-- a member of a list stands somewhere in it
mem_at : {A : Type 0} (xs : List A) (d x : A) → Memᴰ x xs → (i : ℕ) × (i < length xs) × (x ≡ get_or xs i d)
mem_at [] d x m = absurd (Memᴰ.not-nil m)
mem_at (y ∷ ys) d x m =
    ⊎_elim (λ e. (0, omega arith, e)) (λ k. let (i, l, e) = mem_at ys d x k in (suc i, omega arith, e)) (Memᴰ.cases_cons m)

pub nogood_ruled : (n k : ℕ) (w d : code.Facts) (r : Rule) (x y z : ℕ) → Covers (path_of w) (path_of d) → applies n (path_of w) (move k r (triple x y z)) ≡ true → (q : Query) → ExcludesAll q (path_of d) k n ((path_of w).graph k) r x y z → Nogood q (path_of w)
nogood_ruled n k w d r x y z cov app q none =
    nogood_rule q n (path_of w) m (applies_met n (path_of w) m app) (λ c mem.
    let (i, l, e) = mem_at (alternatives n (path_of w).graph m) (equal 0 0) c mem in
    let in_row : i < count_of r z = omega (arith, l, count_is k n (path_of w).graph r x y z) in
    let f : Fact = alternative_at k n ((path_of w).graph k) r x y z i in
    let is : c ≡ f = e ∙ alternative_is k n (path_of w).graph r x y z i (equal 0 0) in_row in
    excludes_same q (path_of w) f c (sym is) (excludes_covered q (path_of w) (path_of d) (bounded d) cov f (none i in_row)))
  where
    m : Move
    m = move k r (triple x y z)

-- the same of the alternatives of a path
pub nogood_there : (k n : ℕ) (s t d : code.Facts) → HasLink (path_of s) k → HasLink (path_of t) k → (r : Rule) → (is_not_cycle r ≡ false → s.link ≡ t.link) → (x y z : ℕ) → ((q : Query) → ExcludesAll q (path_of d) k n ((path_of s).graph k) r x y z → Nogood q (path_of s)) → (q : Query) → ExcludesAll q (path_of d) k n ((path_of t).graph k) r x y z → Nogood q (path_of s)
nogood_there k n s t d h h' r same x y z f q none = f q (λ i l. excludes_same q (path_of d) _ _ (sym (alternative_same k n s t h h' r same x y z i)) (none i l))
