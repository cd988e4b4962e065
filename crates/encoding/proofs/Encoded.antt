-- The bytes of a query whose numbers are as they should be: they are accepted, and say the query. Assumes nothing.
use Prim.Native.Nat.{ℕ, suc, ◌+◌, ◌*◌, ◌≤◌, ◌<◌}
use native.Mathlib.Omega.{arith}
use native.Mathlib.Nat.{add-zero, add-suc, suc-add, mul-one}
use mathlib.Core.Path.{◌≡◌, refl, sym, ap, ◌∙◌}
use mathlib.Core.Bool.{Bool, true, false, not, cond}
use mathlib.Core.List.{List, [], ◌∷◌, ◌++◌, Memᴰ}
use mathlib.Core.Option.{none}
use lib.ListN.{length, get_or, length-append}
use lib.Seq.{take_at, drop_at}
use lib.Dec.{eqb, ltb}
use borrow.Author.Tests.{le-leb, leb-true, eqb-true, lt-ltb}
use Rattle.logic.specs.Search.{◌and◌, ◌or◌, from, keep, or_else, flat_map}
use Rattle.logic.specs.Query.{Literal, Query, term_count, entry_of, names_nil, argument_of, Role, Section, entry_role, sign_role, term_role}
use Rattle.logic.specs.Query.{number_role, count_role, four_sections, boolean_section, five_sections, sections, parts, with_part, layout, roles_of}
use Rattle.logic.specs.Query.{first_byte, layout_by, layout_of, fault_in, layout_fault, role_fault, byte_fault, literals, section, query_of, decode}
use Rattle.logic.specs.Calls.{Input, Check, layout_check, byte_check, query_checks, refusal_of}
use Rattle.theory.proofs.Basics.Search.{and_left, and_right, and_intro, or_left, or_right}
use Rattle.theory.proofs.Basics.Count.{length_from, length-flat_map}
use Rattle.theory.proofs.Query.Bytes.{Allows, Allowed}
use Rattle.theory.proofs.Query.Tied.{Accepted, InTerms, ToEight}
use Rattle.theory.proofs.Query.AcceptedBytes.{form_elim}
use Rattle.theory.proofs.Calls.CallLaws.{refusal_of_clear}
use Rattle.encoding.specs.QueryBytes.{sign_byte, literal_bytes, section_bytes, encode, within_limits}

-- Literals read back

pub sign_reads : (b : Bool) → eqb (sign_byte b) 1 ≡ b
unfolding sign_byte
sign_reads true = refl
sign_reads false = refl

-- each of these literals is about link 1
abbrev pub AboutOne : List Literal → Type 0
AboutOne ls = (l : Literal) → Memᴰ l ls → l.link ≡ 1

pub literals_read : (ls : List Literal) → AboutOne ls → literals (flat_map literal_bytes ls) ≡ ls
unfolding literals flat_map literal_bytes
literals_read [] one = refl
literals_read (l ∷ ls) one =
    let e : 1 ≡ l.link = sym (one l (Memᴰ.head refl)) in
    rw (sign_reads l.plain, literals_read ls (λ x m. one x (Memᴰ.tail m))) (λ i. record { plain = l.plain; link = e i; left = l.left; right = l.right } ∷ ls)

-- Layout

-- a section's part, where the others are laid out
pub layout-part : (s : Section) (ss : List Section) (place c : ℕ) (part rest : List ℕ) (qs : List (List ℕ)) → c ≤ s.limit →
    length part ≡ c * s.width → layout ss (suc place + c * s.width) rest ≡ parts qs → layout (s ∷ ss) place (c ∷ (part ++ rest)) ≡ parts (part ∷ qs)
unfolding layout with_part
layout-part s ss place c part rest qs within sized h =
    rw (
      le-leb c s.limit within,
      le-leb (c * s.width) (length (part ++ rest)) (omega (arith, sized, length-append part rest)),
      take_at part rest (c * s.width) sized,
      drop_at part rest (c * s.width) sized,
      h,
    )

pub layout-none : (place : ℕ) → layout [] place [] ≡ parts []
unfolding layout
layout-none place = refl

roles-part : (s : Section) (ss : List Section) (c : ℕ) (part rest : List ℕ) → length part ≡ c * s.width →
    roles_of (s ∷ ss) (c ∷ (part ++ rest)) ≡ count_role ∷ (flat_map s.roles (from c 1) ++ roles_of ss rest)
unfolding roles_of
roles-part s ss c part rest sized = rw (drop_at part rest (c * s.width) sized)

-- Roles

-- a byte that its role allows meets no refusal
role_quiet : (r : Role) (b k : ℕ) → 5 ≤ k → k ≤ 8 → Allows r b → eqb r.refusal k and not (r.allows b) ≡ false
unfolding ◌and◌
role_quiet r b k low high h = go (eqb r.refusal k) refl
  where
    go : (c : Bool) → eqb r.refusal k ≡ c → c and not (r.allows b) ≡ false
    go true e = let q = eqb-true r.refusal k e in ap not (h (omega arith, omega arith))
    go false e = refl

pub allowed_faultless : (place : ℕ) (roles : List Role) (bytes : List ℕ) → Allowed roles bytes → (k : ℕ) → 5 ≤ k → k ≤ 8 → role_fault k place roles bytes ≡ none
unfolding role_fault keep or_else
allowed_faultless place [] bytes h k low high = refl
allowed_faultless place (r ∷ roles) [] h k low high = refl
allowed_faultless place (r ∷ roles) (b ∷ bytes) h k low high =
    rw (role_quiet r b k low high h.0) (allowed_faultless (suc place) roles bytes h.1 k low high)

allowed-append : (roles roles' : List Role) (bytes bytes' : List ℕ) → length roles ≡ length bytes → Allowed roles bytes → Allowed roles' bytes' → Allowed (roles ++ roles') (bytes ++ bytes')
allowed-append [] roles' [] bytes' e h g = g
allowed-append [] roles' (b ∷ bytes) bytes' e h g = absurd (omega arith)
allowed-append (r ∷ roles) roles' [] bytes' e h g = absurd (omega arith)
allowed-append (r ∷ roles) roles' (b ∷ bytes) bytes' e h g = (h.0, allowed-append roles roles' bytes bytes' (omega arith) h.1 g)

-- the entries of a section, each allowed by its roles
entries-allowed : (i : ℕ) (es : List ℕ) → ((j : ℕ) → j < length es → Allows (entry_role (i + j)) (get_or es j 0)) → Allowed (flat_map (λ j. entry_role j ∷ []) (from (length es) i)) es
unfolding flat_map from
entries-allowed i [] h = tt
entries-allowed i (e ∷ es) h = (
  rw (← add-zero i) (h 0 (omega arith)),
  entries-allowed (suc i) es (λ j l. rw (suc-add, ← add-suc) (h (suc j) (omega arith))),
)

pub sign_allowed : (b : Bool) → Allows sign_role (sign_byte b)
unfolding sign_role sign_byte
sign_allowed true c = refl
sign_allowed false c = refl

pub literals-allowed : (left right : Role) (i : ℕ) (ls : List Literal) →
    ((l : Literal) → Memᴰ l ls → Allows left l.left × Allows right l.right) →
    Allowed (flat_map (λ j. sign_role ∷ left ∷ right ∷ []) (from (length ls) i)) (flat_map literal_bytes ls)
unfolding flat_map from literal_bytes
literals-allowed left right i [] h = tt
literals-allowed left right i (l ∷ ls) h =
    let here = h l (Memᴰ.head refl) in
    (sign_allowed l.plain, (here.0, (here.1, literals-allowed left right (suc i) ls (λ x m. h x (Memᴰ.tail m)))))

-- how many bytes and roles a section has
pub literal-bytes : (ls : List Literal) → length (flat_map literal_bytes ls) ≡ length ls * 3
unfolding literal_bytes
literal-bytes ls = length-flat_map literal_bytes 3 (λ l. refl) ls

roles-sized : (f : ℕ → List Role) (w c : ℕ) → ((i : ℕ) → length (f i) ≡ w) → length (flat_map f (from c 1)) ≡ c * w
roles-sized f w c h = length-flat_map f w h (from c 1) ∙ ap (λ (k : ℕ). k * w) (length_from c 1)

-- a section behind its count, and the sections behind it
pub section-allowed : (s : Section) (ss : List Section) (c : ℕ) (part rest : List ℕ) → ((i : ℕ) → length (s.roles i) ≡ s.width) →
    length part ≡ c * s.width → Allowed (flat_map s.roles (from c 1)) part → Allowed (roles_of ss rest) rest →
    Allowed (roles_of (s ∷ ss) (c ∷ (part ++ rest))) (c ∷ (part ++ rest))
unfolding count_role
section-allowed s ss c part rest regular sized h g =
    rw (roles-part s ss c part rest sized)
    (λ checked. absurd (omega (arith, checked.0)), allowed-append (flat_map s.roles (from c 1)) (roles_of ss rest) part rest (roles-sized s.roles s.width c regular ∙ sym sized) h g)

pub roles-none : Allowed (roles_of [] []) []
unfolding roles_of
roles-none = tt

-- a section of no entries
pub none_allowed : (f : ℕ → List Role) → Allowed (flat_map f (from 0 1)) []
unfolding flat_map from
none_allowed f = tt

-- Queries

-- the four limits, one by one and together
pub record Limits (q : Query) : Type 0 where
  pub terms : term_count q ≤ 16
  pub equalities : length q.equalities ≤ 60
  pub reachability : length q.reachability ≤ 60
  pub fields : length q.fields ≤ 60

pub limits_within : (q : Query) → Limits q → within_limits q ≡ true
unfolding within_limits
limits_within q l =
    and_intro (and_intro (and_intro (le-leb _ 16 l.terms) (le-leb _ 60 l.equalities)) (le-leb _ 60 l.reachability)) (le-leb _ 60 l.fields)

pub within_limits_lem : (q : Query) → within_limits q ≡ true → Limits q
unfolding within_limits
within_limits_lem q h =
    let three = and_left _ _ h in
    let two = and_left _ _ three in
    record {
      terms = leb-true _ 16 (and_left _ _ two);
      equalities = leb-true _ 60 (and_right _ _ two);
      reachability = leb-true _ 60 (and_right _ _ three);
      fields = leb-true _ 60 (and_right _ _ h);
    }

-- the form of 01: there is one link, no term's is listed, and each literal is about it
pub record OneLinked (q : Query) : Type 0 where
  pub links : q.links ≡ 1
  pub entries : q.entries.links ≡ []
  pub equalities : AboutOne q.equalities
  pub reachability : AboutOne q.reachability
  pub fields : AboutOne q.fields

-- the numbers of a query are as they should be, it is in the form of 01, and it keeps the limits
pub record Encodable (q : Query) : Type 0 where
  pub accepted : Accepted q
  pub one_linked : OneLinked q
  pub within : within_limits q ≡ true

-- what the roles of bytes allow, of a query whose numbers are as they should be
module _ (q : Query) (ok : Accepted q) where
  pub entry_allowed : (j : ℕ) → j < length q.entries.terms → Allows (entry_role (1 + j)) (get_or q.entries.terms j 0)
  unfolding entry_role term_count entry_of argument_of names_nil
  entry_allowed j l checked = go (eqb (get_or q.entries.terms j 0) 255) (ok.entry_below (suc j) (omega arith, l))
    where
      go : (c : Bool) → cond c 0 (get_or q.entries.terms j 0) < suc j → (ltb (get_or q.entries.terms j 0) (1 + j)) or c ≡ true
      go true h = or_right _ refl
      go false h = or_left false (lt-ltb (get_or q.entries.terms j 0) (1 + j) (omega arith))

  pub term_allowed : (t : ℕ) → InTerms q t → Allows (term_role (term_count q)) t
  unfolding term_role
  term_allowed t h checked = and_intro (lt-ltb 0 t h.0) (le-leb t (term_count q) h.1)

  pub number_allowed : (j : ℕ) → ToEight j → Allows number_role j
  unfolding number_role
  number_allowed j h checked = and_intro (lt-ltb 0 j h.0) (le-leb j 8 h.1)

module _ (q : Query) (ok : Encodable q) where
  unfoldable equal : List ℕ
  equal = flat_map literal_bytes q.equalities

  unfoldable reach : List ℕ
  reach = flat_map literal_bytes q.reachability

  unfoldable field : List ℕ
  field = flat_map literal_bytes q.fields

  unfoldable tail5 : List ℕ
  tail5 = 0 ∷ ([] ++ [])

  unfoldable tail4 : List ℕ
  tail4 = length q.fields ∷ (field ++ tail5)

  unfoldable tail3 : List ℕ
  tail3 = length q.reachability ∷ (reach ++ tail4)

  unfoldable tail2 : List ℕ
  tail2 = length q.equalities ∷ (equal ++ tail3)

  bytes_are : encode q ≡ term_count q ∷ (q.entries.terms ++ tail2)
  unfolding encode section_bytes equal reach field tail5 tail4 tail3 tail2
  bytes_are = refl

  limits : Limits q
  limits = within_limits_lem q ok.within

  layout_are : layout_of (encode q) ≡ parts (q.entries.terms ∷ equal ∷ reach ∷ field ∷ [] ∷ [])
  unfolding layout_of layout_by sections five_sections four_sections boolean_section first_byte term_count equal reach field tail5 tail4 tail3 tail2
  layout_are =
      ap layout_of bytes_are
      ∙ layout-part _ _ 0 (term_count q) q.entries.terms tail2 _ limits.terms (sym (mul-one (term_count q)))
      (layout-part _ _ _ (length q.equalities) equal tail3 _ limits.equalities (literal-bytes q.equalities)
      (layout-part _ _ _ (length q.reachability) reach tail4 _ limits.reachability (literal-bytes q.reachability)
      (layout-part _ _ _ (length q.fields) field tail5 _ limits.fields (literal-bytes q.fields)
      (layout-part _ _ _ 0 [] [] _ (omega arith) refl (layout-none _)))))

  -- "the bytes say the query"
  pub decoded : decode (encode q) ≡ q
  unfolding decode query_of section equal reach field
  decoded =
      let f = ok.one_linked in
      ap query_of layout_are
      ∙ (λ i.
      record {
        links = sym f.links i;
        entries = record { terms = q.entries.terms; links = sym f.entries i };
        equalities = literals_read q.equalities f.equalities i;
        reachability = literals_read q.reachability f.reachability i;
        fields = literals_read q.fields f.fields i;
      })

  allowed : Allowed (roles_of (sections (first_byte (encode q))) (encode q)) (encode q)
  unfolding sections five_sections four_sections boolean_section first_byte term_count equal reach field tail5 tail4 tail3 tail2
  allowed =
      rw bytes_are
      (section-allowed _ _ (term_count q) q.entries.terms tail2 (λ i. refl) (sym (mul-one (term_count q))) (entries-allowed 1 q.entries.terms (entry_allowed q ok.accepted))
      (section-allowed _ _ (length q.equalities) equal tail3 (λ i. refl) (literal-bytes q.equalities)
      (literals-allowed _ _ 1 q.equalities (λ l m. let t = ok.accepted.equal_terms l m in
      (term_allowed q ok.accepted l.left t.0, term_allowed q ok.accepted l.right t.1)))
      (section-allowed _ _ (length q.reachability) reach tail4 (λ i. refl) (literal-bytes q.reachability)
      (literals-allowed _ _ 1 q.reachability (λ l m. let t = ok.accepted.reach_terms l m in
      (term_allowed q ok.accepted l.left t.0, term_allowed q ok.accepted l.right t.1)))
      (section-allowed _ _ (length q.fields) field tail5 (λ i. refl) (literal-bytes q.fields)
      (literals-allowed _ _ 1 q.fields
      (λ l m. (number_allowed q ok.accepted l.left (ok.accepted.field_number l m), term_allowed q ok.accepted l.right (ok.accepted.field_term l m))))
      (section-allowed _ _ 0 [] [] (λ i. refl) refl (none_allowed _) roles-none)))))

  layout_passed : (k : ℕ) → layout_fault sections k (encode q) ≡ none
  unfolding layout_fault layout_of fault_in
  layout_passed k = ap (fault_in k) layout_are

  byte_passed : (k : ℕ) → 5 ≤ k → k ≤ 8 → byte_fault sections k (encode q) ≡ none
  unfolding byte_fault
  byte_passed k low high = allowed_faultless 0 _ (encode q) allowed k low high

  -- the bytes pass the checks of every call
  pub passed : (i : Input) → i.query ≡ encode q → refusal_of query_checks i ≡ none
  unfolding query_checks layout_check byte_check
  passed i e =
      refusal_of_clear query_checks i
      (form_elim sections (λ (c : Check). c.place i ≡ none) (λ k m. ap (layout_fault sections k) e ∙ layout_passed k) (λ k l u. ap (byte_fault sections k) e ∙ byte_passed k l u))
