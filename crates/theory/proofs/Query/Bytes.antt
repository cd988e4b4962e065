-- Bytes that are laid out by sections: each section's part is as long as its count says, and refusals 5 to 8 are met by none of its
-- bytes; so the bytes of each entry, and of each literal, are allowed.
use Prim.Native.Nat.{ℕ, zero, suc, ◌+◌, ◌*◌, ◌≤◌, ◌<◌}
use native.Mathlib.Omega.{arith}
use native.Mathlib.Nat.{add-zero, add-suc, suc-add, zero-mul, suc-mul}
use mathlib.Core.Path.{◌≡◌, refl, sym, ap, ◌∙◌, subst, subst₂}
use mathlib.Core.Logic.{⊎_elim}
use mathlib.Core.Bool.{Bool, true, false, not, cond}
use mathlib.Core.List.Memᴰ
use mathlib.Core.List.{List, [], ◌∷◌, ◌++◌, Memᴰ}
use mathlib.Core.Option.{none, some}
use lib.ListN.{length, get_or, take, drop, length-append, take-append-drop, length-drop}
use lib.Seq.{length-take-le}
use lib.Dec.{eqb, leb}
use borrow.Author.Tests.{leb-true, eq-eqb}
use Rattle.logic.specs.Search.{◌and◌, from, at, keep, flat_map}
use Rattle.logic.specs.Query.{Literal, Role, Section, Layout, faulty, parts, with_part, layout, roles_of, first_byte, role_fault, literals, section}
use Rattle.theory.proofs.Basics.Search.{true-false, and_intro, none-some, keep-none, or_else-none}

-- Roles

-- the role has one of refusals 5 to 8; that of a count has none
abbrev pub Checked : Role → Type 0
Checked r = (5 ≤ r.refusal) × (r.refusal ≤ 8)

-- no byte meets one of refusals 5 to 8
abbrev pub Faultless : ℕ → List Role → List ℕ → Type 0
Faultless place roles bytes = (k : ℕ) → 5 ≤ k → k ≤ 8 → role_fault k place roles bytes ≡ none

-- a role that is checked allows the byte
abbrev pub Allows : Role → ℕ → Type 0
Allows r b = Checked r → r.allows b ≡ true

-- each byte is allowed by its role
abbrev pub Allowed : List Role → List ℕ → Type 0
Allowed [] bytes = Unit {0}
Allowed (r ∷ roles) [] = Unit {0}
Allowed (r ∷ roles) (b ∷ bytes) = Allows r b × Allowed roles bytes

-- a role's own refusal is met where it does not allow the byte
role_allows : (k : ℕ) (b : Bool) → eqb k k and not b ≡ false → b ≡ true
role_allows k true h = refl
role_allows k false h = absurd (true-false (and_intro (eq-eqb k k refl) refl) h)

pub faultless_allowed : (place : ℕ) (roles : List Role) (bytes : List ℕ) → Faultless place roles bytes → Allowed roles bytes
unfolding role_fault
faultless_allowed place [] bytes h = tt
faultless_allowed place (r ∷ roles) [] h = tt
faultless_allowed place (r ∷ roles) (b ∷ bytes) h = (
  λ c. role_allows r.refusal (r.allows b) (keep-none _ place (split r.refusal c.0 c.1).0),
  faultless_allowed (suc place) roles bytes (λ k l u. (split k l u).1),
)
  where
    split : (k : ℕ) → 5 ≤ k → k ≤ 8 → (keep (eqb r.refusal k and not (r.allows b)) place ≡ none) × (role_fault k (suc place) roles bytes ≡ none)
    split k l u = or_else-none (keep (eqb r.refusal k and not (r.allows b)) place) (role_fault k (suc place) roles bytes) (h k l u)

allowed-append : (roles roles' : List Role) (bytes bytes' : List ℕ) → length roles ≡ length bytes → Allowed (roles ++ roles') (bytes ++ bytes') → Allowed roles bytes × Allowed roles' bytes'
allowed-append [] roles' [] bytes' e h = (tt, h)
allowed-append [] roles' (b ∷ bytes) bytes' e h = absurd (omega arith)
allowed-append (r ∷ roles) roles' [] bytes' e h = absurd (omega arith)
allowed-append (r ∷ roles) roles' (b ∷ bytes) bytes' e h =
    let rest = allowed-append roles roles' bytes bytes' (omega arith) h.1 in
    ((h.0, rest.0), rest.1)

-- Layout

-- the roles of an entry are as many as its bytes
abbrev pub Regular : List Section → Type 0
Regular [] = Unit {0}
Regular (s ∷ ss) = ((i : ℕ) → length (s.roles i) ≡ s.width) × Regular ss

pub flat_map-length : (f : ℕ → List Role) (w : ℕ) → ((i : ℕ) → length (f i) ≡ w) → (c i : ℕ) → length (flat_map f (from c i)) ≡ c * w
unfolding flat_map from
flat_map-length f w h zero i = sym (zero-mul w)
flat_map-length f w h (suc c) i = rw (length-append, suc-mul) (omega (arith, h i, flat_map-length f w h c (suc i)))

-- the literals of a section of three bytes an entry
pub literals-count : (c : ℕ) (bytes : List ℕ) → length bytes ≡ c * 3 → length (literals bytes) ≡ c
unfolding literals
literals-count zero [] e = refl
literals-count (suc c) [] e = absurd (omega arith)
literals-count c (s ∷ []) e = absurd (omega arith)
literals-count c (s ∷ a ∷ []) e = absurd (omega arith)
literals-count zero (s ∷ a ∷ b ∷ rest) e = absurd (omega arith)
literals-count (suc c) (s ∷ a ∷ b ∷ rest) e = ap suc (literals-count c rest (omega arith))

-- what a choice leads to, by its test
pub cond_elim : {A : Type 0} (P : A → Type 0) (b : Bool) {x y : A} → (b ≡ true → P x) → (b ≡ false → P y) → P (cond b x y)
cond_elim P true t f = t refl
cond_elim P false t f = f refl

pub faulty_parts : {k place : ℕ} {ps : List (List ℕ)} → faulty k place ≡ parts ps → ⊥
faulty_parts e = let z : ◌≡◌ {A = ℕ} 0 1 = cc in omega arith

pub with_part-parts : (p : List ℕ) (l : Layout) (ps : List (List ℕ)) → with_part p l ≡ parts ps → (qs : List (List ℕ)) × (l ≡ parts qs) × (ps ≡ p ∷ qs)
unfolding with_part
with_part-parts p (faulty k place) ps h = absurd (faulty_parts h)
with_part-parts p (parts qs) ps h = (qs, refl, cc)

-- what the walk from the front met at a section that it passed
record Passed (s : Section) (ss : List Section) (c : ℕ) (more : List ℕ) (ps : List (List ℕ)) : Type 0 where
  within : c ≤ s.limit
  fits : c * s.width ≤ length more
  place : ℕ
  others : List (List ℕ)
  first : ps ≡ take (c * s.width) more ∷ others
  rest : layout ss place (drop (c * s.width) more) ≡ parts others

passed : (s : Section) (ss : List Section) (place c : ℕ) (more : List ℕ) (ps : List (List ℕ)) → layout (s ∷ ss) place (c ∷ more) ≡ parts ps → Passed s ss c more ps
unfolding layout
passed s ss place c more ps =
    cond_elim Leads (leb c s.limit) (λ within. cond_elim Leads (leb size (length more)) (split within) (λ f. missed)) (λ f. missed)
  where
    size : ℕ
    size = c * s.width

    Leads : Layout → Type 0
    Leads l = l ≡ parts ps → Passed s ss c more ps

    missed : {k at : ℕ} → Leads (faulty k at)
    missed h = absurd (faulty_parts h)

    split : leb c s.limit ≡ true → leb size (length more) ≡ true → Leads (with_part (take size more) (layout ss (suc place + size) (drop size more)))
    split within fits h =
        let others = with_part-parts (take size more) (layout ss (suc place + size) (drop size more)) ps h in
        record {
          within = leb-true c s.limit within;
          fits = leb-true size (length more) fits;
          place = suc place + size;
          others = others.0;
          first = others.2;
          rest = others.1;
        }

-- The part of a section: as many entries as were counted, each of the section's width and with its roles.
pub record Part (s : Section) (bytes : List ℕ) : Type 0 where
  pub count : ℕ
  pub within : count ≤ s.limit
  pub sized : length bytes ≡ count * s.width
  pub allowed : Allowed (flat_map s.roles (from count 1)) bytes

-- a section that was passed leaves its part, and the bytes behind it are allowed by the roles of the other sections
passed_part : (s : Section) (ss : List Section) (c : ℕ) (more : List ℕ) (ps : List (List ℕ)) → ((i : ℕ) → length (s.roles i) ≡ s.width) →
    Passed s ss c more ps → Allowed (roles_of (s ∷ ss) (c ∷ more)) (c ∷ more) → Part s (take (c * s.width) more)
    × Allowed (roles_of ss (drop (c * s.width) more)) (drop (c * s.width) more)
unfolding roles_of
passed_part s ss c more ps regular p h =
    (record { count = c; within = p.within; sized = sized; allowed = split.0 }, split.1)
  where
    size : ℕ
    size = c * s.width

    sized : length (take size more) ≡ size
    sized = length-take-le size more p.fits

    roles : List Role
    roles = flat_map s.roles (from c 1)

    split : Allowed roles (take size more) × Allowed (roles_of ss (drop size more)) (drop size more)
    split =
        allowed-append roles (roles_of ss (drop size more)) (take size more) (drop size more) (flat_map-length s.roles s.width regular c 1 ∙ sym sized)
        (rw (take-append-drop size more) h.1)

-- each section of bytes that are laid out and allowed has its part, at its own place
pub part_at : (ss : List Section) (place : ℕ) (bytes : List ℕ) (ps : List (List ℕ)) → Regular ss → layout ss place bytes ≡ parts ps →
    Allowed (roles_of ss bytes) bytes → (i : ℕ) (s : Section) → at ss (suc i) ≡ some s → Part s (section ps i)
unfolding layout at section
part_at [] place bytes ps r l h i s e = absurd (none-some e)
part_at (s₁ ∷ ss) place [] ps r l h i s e = absurd (faulty_parts l)
part_at (s₁ ∷ ss) place (c ∷ more) ps r l h zero s e =
    let p = passed s₁ ss place c more ps l in
    subst₂ Part (cc) (sym (ap (λ (qs : List (List ℕ)). section qs 0) p.first)) (passed_part s₁ ss c more ps r.0 p h).0
part_at (s₁ ∷ ss) place (c ∷ more) ps r l h (suc i) s e =
    let p = passed s₁ ss place c more ps l in
    let behind = (passed_part s₁ ss c more ps r.0 p h).1 in
    subst (λ (qs : List (List ℕ)). Part s (section qs (suc i))) (sym p.first)
    (part_at ss p.place (drop (c * s₁.width) more) p.others r.1 p.rest behind i s e)

-- the count of the first section is the first byte
pub first-sized : (s : Section) (ss : List Section) (place : ℕ) (bytes : List ℕ) (ps : List (List ℕ)) → layout (s ∷ ss) place bytes ≡ parts ps → length (section ps 0) ≡ first_byte bytes * s.width
unfolding layout section first_byte
first-sized s ss place [] ps l = absurd (faulty_parts l)
first-sized s ss place (c ∷ more) ps l =
    let p = passed s ss place c more ps l in
    ap (λ (qs : List (List ℕ)). length (section qs 0)) p.first ∙ length-take-le (c * s.width) more p.fits

-- the bytes of a query that is laid out: each section's, and its count
unfoldable pub total : List (List ℕ) → ℕ
total [] = 0
total (p ∷ ps) = 1 + length p + total ps

pub laid_length : (ss : List Section) (place : ℕ) (bytes : List ℕ) (ps : List (List ℕ)) → layout ss place bytes ≡ parts ps → length bytes ≡ total ps
unfolding layout total
laid_length [] place [] ps l = let e : ◌≡◌ {A = List (List ℕ)} [] ps = cc in rw (← e) refl
laid_length [] place (b ∷ bytes) ps l = absurd (faulty_parts l)
laid_length (s ∷ ss) place [] ps l = absurd (faulty_parts l)
laid_length (s ∷ ss) place (c ∷ more) ps l =
    let p = passed s ss place c more ps l in
    let rest = laid_length ss p.place (drop (c * s.width) more) p.others p.rest in
    rw p.first (omega (arith, rest, length-drop (c * s.width) more, length-take-le (c * s.width) more p.fits, p.fits))

-- the refusals of the walk from the front, and the forms of query whose counts meet no other
unfoldable pub layout_numbers : List ℕ
layout_numbers = 2 ∷ 3 ∷ 26 ∷ 4 ∷ []

abbrev pub LayoutNumber : ℕ → Type 0
LayoutNumber k = Memᴰ k layout_numbers

abbrev pub Excesses : List Section → Type 0
Excesses [] = Unit {0}
Excesses (s ∷ ss) = LayoutNumber s.excess × Excesses ss

pub two_number : LayoutNumber 2
unfolding layout_numbers
two_number = Memᴰ.head refl

pub three_number : LayoutNumber 3
unfolding layout_numbers
three_number = Memᴰ.tail (Memᴰ.head refl)

pub retired_number : LayoutNumber 26
unfolding layout_numbers
retired_number = Memᴰ.tail (Memᴰ.tail (Memᴰ.head refl))

pub four_number : LayoutNumber 4
unfolding layout_numbers
four_number = Memᴰ.tail (Memᴰ.tail (Memᴰ.tail (Memᴰ.head refl)))

abbrev pub Numbered : Layout → Type 0
Numbered (faulty k place) = LayoutNumber k
Numbered (parts ps) = Unit {0}

with_part_numbered : (p : List ℕ) (l : Layout) → Numbered l → Numbered (with_part p l)
unfolding with_part
with_part_numbered p (faulty k place) h = h
with_part_numbered p (parts ps) h = h

pub layout_numbered : (ss : List Section) (place : ℕ) (bytes : List ℕ) → Excesses ss → Numbered (layout ss place bytes)
unfolding layout
layout_numbered [] place [] h = tt
layout_numbered [] place (b ∷ bytes) h = four_number
layout_numbered (s ∷ ss) place [] h = two_number
layout_numbered (s ∷ ss) place (c ∷ more) h =
    let size : ℕ = c * s.width in
    let rest = layout_numbered ss (suc place + size) (drop size more) h.1 in
    cond_elim Numbered (leb c s.limit)
    (λ t. cond_elim Numbered (leb size (length more)) (λ t'. with_part_numbered (take size more) _ rest) (λ f. two_number)) (λ f. h.0)

-- Entries

-- the byte of entry t of a section of one byte an entry
pub entry_allowed : (role : ℕ → Role) (c i : ℕ) (bytes : List ℕ) → Allowed (flat_map (λ j. role j ∷ []) (from c i)) bytes → (t : ℕ) → t < c → t < length bytes → Allows (role (i + t)) (get_or bytes t 0)
unfolding flat_map from
entry_allowed role zero i bytes h t l u = absurd (omega arith)
entry_allowed role (suc c) i [] h t l u = absurd (omega arith)
entry_allowed role (suc c) i (b ∷ bytes) h zero l u = rw add-zero h.0
entry_allowed role (suc c) i (b ∷ bytes) h (suc t) l u =
    rw (add-suc, ← suc-add) (entry_allowed role c (suc i) bytes h.1 t (omega arith) (omega arith))

-- the literals of a section of three bytes an entry: they are about link 1, and their bytes are allowed
pub literals-link : (bytes : List ℕ) (l : Literal) → Memᴰ l (literals bytes) → l.link ≡ 1
unfolding literals
literals-link [] l m = absurd (Memᴰ.not-nil m)
literals-link (s ∷ []) l m = absurd (Memᴰ.not-nil m)
literals-link (s ∷ a ∷ []) l m = absurd (Memᴰ.not-nil m)
literals-link (s ∷ a ∷ b ∷ rest) l m = ⊎_elim (λ e. ap (λ (k : Literal). k.link) e) (literals-link rest l) (Memᴰ.cases_cons m)

pub literals-allowed : (sign left right : Role) (c i : ℕ) (bytes : List ℕ) → length bytes ≡ c * 3 →
    Allowed (flat_map (λ j. sign ∷ left ∷ right ∷ []) (from c i)) bytes → (l : Literal) → Memᴰ l (literals bytes) → Allows left l.left × Allows right l.right
unfolding flat_map from literals
literals-allowed sign left right zero i [] e h l m = absurd (Memᴰ.not-nil m)
literals-allowed sign left right zero i (s ∷ bytes) e h l m = absurd (omega arith)
literals-allowed sign left right (suc c) i [] e h l m = absurd (Memᴰ.not-nil m)
literals-allowed sign left right (suc c) i (s ∷ []) e h l m = absurd (Memᴰ.not-nil m)
literals-allowed sign left right (suc c) i (s ∷ a ∷ []) e h l m = absurd (Memᴰ.not-nil m)
literals-allowed sign left right (suc c) i (s ∷ a ∷ b ∷ rest) e h l m =
    ⊎_elim (λ q. (rw q h.1.0, rw q h.1.1.0)) (literals-allowed sign left right c (suc i) rest (omega arith) h.1.1.1 l)
    (Memᴰ.cases_cons m)
