-- The search for a byte that meets refusal k, byte by byte and entry by entry.
use Prim.Native.Nat.{ℕ, suc, ◌+◌, ◌-◌, ◌*◌, ◌≤◌, ◌<◌}
use native.Mathlib.Nat.{add-zero, add-suc, add_assoc, suc-add, suc-mul, sub-zero, sub-eq-zero_of_le}
use native.Mathlib.Numerals.{add-one}
use native.Mathlib.Omega.{arith}
use mathlib.Core.Path.{◌≡◌, refl, sym, ap, ◌∙◌}
use mathlib.Core.Bool.{Bool, true, false, not, ◌||◌, true≢false, false≢true}
use mathlib.Core.List.{List, [], ◌∷◌, ◌++◌}
use mathlib.Core.Option.{Option, none, some}
use lib.ListN.{length, get_or, drop}
use lib.Seq.{drop-drop}
use lib.Dec.{eqb}
use Rattle.logic.specs.Search.{◌and◌, from, all, keep, or_else, flat_map}
use Rattle.logic.specs.Query.{Role, entry_role, sign_role, term_role, number_role, count_role, role_fault}
use Rattle.theory.proofs.Basics.Search.{all_append}
use Rattle.entries.specs.declared.Kind.{Kind}
use Rattle.entries.specs.declared.Kind.TheVariants as kind
use Rattle.byte_tests.specs.Meets.{meets}
use Rattle.entries.specs.Entries.{width_of, roles_at, concerned, fault_at, section_fault}
use Rattle.entries.proofs.Loops.{drop_next}

-- A section whose bytes are not held to refusal k

abbrev Free : ℕ → List Role → Type 0
Free k roles = all (λ r. not (eqb r.refusal k)) roles ≡ true

free_none : (k place : ℕ) (roles : List Role) (bytes : List ℕ) → Free k roles → role_fault k place roles bytes ≡ none
unfolding role_fault all keep or_else ◌and◌
free_none k place [] bytes h = refl
free_none k place (r ∷ roles) [] h = refl
free_none k place (r ∷ roles) (b ∷ bytes) h = go (eqb r.refusal k) h (λ f. free_none k (suc place) roles bytes f)
  where
    go : (t : Bool) → not t and all (λ r. not (eqb r.refusal k)) roles ≡ true → (Free k roles → role_fault k (suc place) roles bytes ≡ none) →
        or_else (keep (t and not (r.allows b)) place) (role_fault k (suc place) roles bytes) ≡ none
    go true f rest = absurd (false≢true f)
    go false f rest = rest f

free_each : (k : ℕ) (roles : ℕ → List Role) → ((i : ℕ) → Free k (roles i)) → (xs : List ℕ) → Free k (flat_map roles xs)
unfolding flat_map all
free_each k roles h [] = refl
free_each k roles h (x ∷ xs) = all_append (λ r. not (eqb r.refusal k)) (roles x) (flat_map roles xs) (h x) (free_each k roles h xs)

or_left_false : (a b : Bool) → a || b ≡ false → a ≡ false
or_left_false true b e = e
or_left_false false b e = refl

or_right_false : (a b : Bool) → a || b ≡ false → b ≡ false
or_right_false true b e = absurd (true≢false e)
or_right_false false b e = e

free_kind : (k : ℕ) (s : Kind) → concerned s k ≡ false → (n i : ℕ) → Free k (roles_at s n i)
unfolding all ◌and◌ entry_role sign_role term_role number_role count_role
free_kind k kind.Terms e n i = rw e refl
free_kind k kind.Pairs e n i = rw (or_left_false (eqb 6 k) (eqb 7 k) e, or_right_false (eqb 6 k) (eqb 7 k) e) refl
free_kind k kind.Fields e n i =
    let f = or_left_false (eqb 6 k || eqb 7 k) (eqb 8 k) e in
    rw (or_left_false (eqb 6 k) (eqb 7 k) f, or_right_false (eqb 6 k) (eqb 7 k) f, or_right_false (eqb 6 k || eqb 7 k) (eqb 8 k) e) refl
free_kind k kind.Booleans e n i = rw (or_left_false (eqb 6 k) (eqb 8 k) e, or_right_false (eqb 6 k) (eqb 8 k) e) refl
free_kind k kind.LinkedTerms e n i = rw (or_left_false (eqb 0 k) (eqb 5 k) e, or_right_false (eqb 0 k) (eqb 5 k) e) refl
free_kind k kind.LinkedPairs e n i =
    let f = or_left_false (eqb 0 k || eqb 6 k) (eqb 7 k) e in
    rw (or_left_false (eqb 0 k) (eqb 6 k) f, or_right_false (eqb 0 k) (eqb 6 k) f, or_right_false (eqb 0 k || eqb 6 k) (eqb 7 k) e) refl

pub section_free : (k : ℕ) (s : Kind) (n at count : ℕ) (bytes : List ℕ) → concerned s k ≡ false → section_fault k s n at count bytes ≡ none
unfolding section_fault
section_free k s n at count bytes e = free_none k at _ (drop at bytes) (free_each k (roles_at s n) (free_kind k s e n) (from count 1))

module _ {A : Type 0} where
  pub or_else-some : {o : Option A} (o' : Option A) {a : A} → o ≡ some a → or_else o o' ≡ some a
  unfolding or_else
  or_else-some o' e = rw e

  pub or_else_next : {o : Option A} (o' : Option A) → o ≡ none → or_else o o' ≡ o'
  unfolding or_else
  or_else_next o' e = rw e

  pub or_else_last : (o : Option A) → or_else o none ≡ o
  unfolding or_else
  or_else_last none = refl
  or_else_last (some a) = refl

  or_else_assoc : (o o' o'' : Option A) → or_else (or_else o o') o'' ≡ or_else o (or_else o' o'')
  unfolding or_else
  or_else_assoc none o' o'' = refl
  or_else_assoc (some a) o' o'' = refl

-- Bytes

-- what a test says of the byte that it was given
pub tested : {b v : Bool} {x y : ℕ} (r : Role) (k : ℕ) → b ≡ meets r k x → x ≡ y → b ≡ v → meets r k y ≡ v
tested r k test e h = ap (meets r k) (sym e) ∙ (sym test ∙ h)

module _ (r : Role) (k : ℕ) (bytes : List ℕ) (at : ℕ) where
  pub fault_at_lem : meets r k (get_or bytes at 0) ≡ true → fault_at r k bytes at ≡ some at
  unfolding fault_at keep
  fault_at_lem e = rw e

  pub no_fault_at : meets r k (get_or bytes at 0) ≡ false → fault_at r k bytes at ≡ none
  unfolding fault_at keep
  no_fault_at e = rw e

pub and_never : (a : Bool) → a and false ≡ false
unfolding ◌and◌
and_never true = refl
and_never false = refl

-- a count or a link is held to nothing
pub free_at : (k : ℕ) (bytes : List ℕ) (at : ℕ) → fault_at count_role k bytes at ≡ none
unfolding meets count_role
free_at k bytes at = no_fault_at count_role k bytes at (and_never (eqb 0 k))

module _ (k : ℕ) (bytes : List ℕ) (r : Role) (roles : List Role) (at : ℕ) (h : at < length bytes) where
  pub fault_first : role_fault k at (r ∷ roles) (drop at bytes) ≡ or_else (fault_at r k bytes at) (role_fault k (at + 1) roles (drop (at + 1) bytes))
  unfolding role_fault fault_at meets
  fault_first = rw (drop_next bytes at h, add-one)

  pub fault_here : meets r k (get_or bytes at 0) ≡ true → role_fault k at (r ∷ roles) (drop at bytes) ≡ some at
  fault_here e = fault_first ∙ or_else-some _ (fault_at_lem r k bytes at e)

  pub fault_next : meets r k (get_or bytes at 0) ≡ false → role_fault k at (r ∷ roles) (drop at bytes) ≡ role_fault k (at + 1) roles (drop (at + 1) bytes)
  fault_next e = fault_first ∙ or_else_next _ (no_fault_at r k bytes at e)

pub free_first : (k : ℕ) (bytes : List ℕ) (roles : List Role) (at : ℕ) → at < length bytes → role_fault k at (count_role ∷ roles) (drop at bytes) ≡ role_fault k (at + 1) roles (drop (at + 1) bytes)
free_first k bytes roles at h = fault_first k bytes count_role roles at h ∙ or_else_next _ (free_at k bytes at)

pub fault_end : (k at : ℕ) (bytes : List ℕ) → role_fault k at [] bytes ≡ none
unfolding role_fault
fault_end k at bytes = refl

no_bytes : (k place : ℕ) (roles : List Role) → role_fault k place roles [] ≡ none
unfolding role_fault
no_bytes k place [] = refl
no_bytes k place (r ∷ roles) = refl

-- Entries

-- the bytes of an entry that are held to something, by the kinds of entry
module _ (k : ℕ) (bytes : List ℕ) where
  pub term_roles : (r : Role) (at : ℕ) → at + 1 ≤ length bytes → role_fault k at (r ∷ []) (drop at bytes) ≡ fault_at r k bytes at
  term_roles r at h = fault_first k bytes r [] at (omega arith) ∙ rw fault_end (or_else_last _)

  pub flag_roles : (a b : Role) (at : ℕ) → at + 2 ≤ length bytes → role_fault k at (a ∷ b ∷ []) (drop at bytes) ≡ or_else (fault_at a k bytes at) (fault_at b k bytes (at + 1))
  flag_roles a b at h = fault_first k bytes a _ at (omega arith) ∙ ap (or_else _) (term_roles b (at + 1) (omega arith))

  pub literal_roles : (a b c : Role) (at : ℕ) → at + 3 ≤ length bytes →
      role_fault k at (a ∷ b ∷ c ∷ []) (drop at bytes) ≡ or_else (or_else (fault_at a k bytes at) (fault_at b k bytes (at + 1))) (fault_at c k bytes (at + 1 + 1))
  literal_roles a b c at h =
      fault_first k bytes a _ at (omega arith) ∙ ap (or_else _) (flag_roles b c (at + 1) (omega arith)) ∙ sym (or_else_assoc _ _ _)

  pub linked_term_roles : (r : Role) (at : ℕ) → at + 2 ≤ length bytes → role_fault k at (count_role ∷ r ∷ []) (drop at bytes) ≡ fault_at r k bytes (at + 1)
  linked_term_roles r at h = free_first k bytes _ at (omega arith) ∙ term_roles r (at + 1) (omega arith)

  pub linked_pair-roles : (a b c : Role) (at : ℕ) → at + 4 ≤ length bytes →
      role_fault k at (a ∷ count_role ∷ b ∷ c ∷ []) (drop at bytes) ≡ or_else (or_else (fault_at a k bytes at) (fault_at b k bytes (at + 2))) (fault_at c k bytes (at + 2 + 1))
  linked_pair-roles a b c at h =
      fault_first k bytes a _ at (omega arith)
      ∙ ap (or_else _) (free_first k bytes _ (at + 1) (omega arith) ∙ rw (add_assoc at 1 1) (flag_roles b c (at + 2) (omega arith)))
      ∙ sym (or_else_assoc _ _ _)

-- the bytes of one list of roles, and then those of the next
append : (k place : ℕ) (roles roles' : List Role) (bytes : List ℕ) →
    role_fault k place (roles ++ roles') bytes ≡ or_else (role_fault k place roles bytes) (role_fault k (place + length roles) roles' (drop (length roles) bytes))
unfolding role_fault or_else
append k place [] roles' bytes = rw add-zero
append k place (r ∷ roles) roles' [] = sym (no_bytes k (place + length (r ∷ roles)) roles')
append k place (r ∷ roles) roles' (b ∷ bytes) =
    rw (append k (suc place) roles roles' bytes, suc-add, ← add-suc) (sym (or_else_assoc (keep (eqb r.refusal k and not (r.allows b)) place) _ _))

-- the same at a place of the query, where the first roles are as many as w
module _ (k at w : ℕ) (roles roles' : List Role) (bytes : List ℕ) (sized : length roles ≡ w) where
  pub append_at : role_fault k at (roles ++ roles') (drop at bytes) ≡ or_else (role_fault k at roles (drop at bytes)) (role_fault k (at + w) roles' (drop (at + w) bytes))
  append_at = rw (append k at roles roles' (drop at bytes), sized, drop-drop)

  pub append_here : {p : ℕ} → role_fault k at roles (drop at bytes) ≡ some p → role_fault k at (roles ++ roles') (drop at bytes) ≡ some p
  append_here e = append_at ∙ or_else-some _ e

  pub append_next : role_fault k at roles (drop at bytes) ≡ none → role_fault k at (roles ++ roles') (drop at bytes) ≡ role_fault k (at + w) roles' (drop (at + w) bytes)
  append_next e = append_at ∙ or_else_next _ e

-- one entry more is left to search, and its bytes
left-next : (count i : ℕ) → i < count → count - i ≡ suc (count - (i + 1))
left-next count i h = omega arith

pub room_next : (count i w : ℕ) → i < count → (count - i) * w ≡ w + (count - (i + 1)) * w
room_next count i w h = rw (left-next count i h, suc-mul) (omega arith)

-- the entries that are left of `count` behind the first i
abbrev pub entries_left : (ℕ → List Role) → ℕ → ℕ → List Role
entries_left roles count i = flat_map roles (from (count - i) (i + 1))

pub entries_next : (roles : ℕ → List Role) (count i : ℕ) → i < count → entries_left roles count i ≡ roles (i + 1) ++ entries_left roles count (i + 1)
unfolding flat_map from
entries_next roles count i h = rw (left-next count i h) (ap (λ (j : ℕ). roles (i + 1) ++ flat_map roles (from (count - (i + 1)) j)) (sym (add-one (i + 1))))

pub roles_regular : (kind : Kind) (n i : ℕ) → length (roles_at kind n i) ≡ width_of kind
roles_regular kind.Terms n i = refl
roles_regular kind.Pairs n i = refl
roles_regular kind.Fields n i = refl
roles_regular kind.Booleans n i = refl
roles_regular kind.LinkedTerms n i = refl
roles_regular kind.LinkedPairs n i = refl

module _ (k : ℕ) (kind : Kind) (n count : ℕ) (bytes : List ℕ) (i at : ℕ) where
  pub entry_end : count ≤ i → role_fault k at (entries_left (roles_at kind n) count i) (drop at bytes) ≡ none
  unfolding flat_map from role_fault
  entry_end h = rw (sub-eq-zero_of_le h)

  next_entry : i < count → role_fault k at (entries_left (roles_at kind n) count i) (drop at bytes) ≡ role_fault k at (roles_at kind n (i + 1) ++ entries_left (roles_at kind n) count (i + 1)) (drop at bytes)
  next_entry h = ap (λ (rs : List Role). role_fault k at rs (drop at bytes)) (entries_next (roles_at kind n) count i h)

  pub entry_here : (p : ℕ) → i < count → role_fault k at (roles_at kind n (i + 1)) (drop at bytes) ≡ some p → role_fault k at (entries_left (roles_at kind n) count i) (drop at bytes) ≡ some p
  entry_here p h e = next_entry h ∙ append_here k at (width_of kind) (roles_at kind n (i + 1)) (entries_left (roles_at kind n) count (i + 1)) bytes (roles_regular kind n (i + 1)) e

  pub entry_next : i < count → role_fault k at (roles_at kind n (i + 1)) (drop at bytes) ≡ none →
      role_fault k at (entries_left (roles_at kind n) count i) (drop at bytes) ≡ role_fault k (at + width_of kind) (entries_left (roles_at kind n) count (i + 1))
      (drop (at + width_of kind) bytes)
  entry_next h e = next_entry h ∙ append_next k at (width_of kind) (roles_at kind n (i + 1)) (entries_left (roles_at kind n) count (i + 1)) bytes (roles_regular kind n (i + 1)) e

pub section_whole : (k : ℕ) (kind : Kind) (n at count : ℕ) (bytes : List ℕ) → section_fault k kind n at count bytes ≡ role_fault k at (entries_left (roles_at kind n) count 0) (drop at bytes)
unfolding section_fault
section_whole k kind n at count bytes = rw (sub-zero count)
