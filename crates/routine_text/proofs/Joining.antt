-- What the actions at the signs read is what the levels of 03 say.
use Prim.Native.Nat.{ℕ, ◌≤◌}
use native.Mathlib.Omega.{arith}
use mathlib.Core.Path.{◌≡◌, refl, sym, ap, ◌∙◌}
use mathlib.Core.Bool.{Bool, true, false, cond}
use mathlib.Core.List.{List, [], ◌∷◌, ◌++◌}
use lib.Dec.{ltb, leb}
use borrow.Author.Tests.{ltb-true, lt-ltb, leb-true, le-leb, lt-leb}
use Rattle.routine_logic.specs.Syntax.{Formula, both, either, implies, same}
use Rattle.routine_text.specs.Builder.{limit_fault, Open, conjoining, disjoining, implying, equating, tightness, joined, Mark, Formulas, set_opened, set_finished, join, Builder, with_marks, with_counts, with_formulas, mark_at, mark, count_part, join_by, open_now, join_and, join_or, join_implies, join_iff, close_formula}
use Rattle.routine_text.specs.Joining.{Sign, and_sign, or_sign, implies_sign, iff_sign, Signed, signed, And, one_item, and_item, Or, one_and, or_and, Implies, one_or, or_implies, Iff, one_implies, iff_implies, close_at, least, opening, open_sign, meet_sign, at_sign, read_chain, below, JoiningClaims}

-- the other formulas do not matter
join_base : (p : ℕ) (os os' : List Open) (g g' : Formula) (f : Formulas) → join p os g (set_finished os' g' f) ≡ join p os g f
unfolding join set_finished
join_base p [] os' g g' f = refl
join_base p (o ∷ os) os' g g' f =
    ap (λ (x : Formulas). cond (leb p (tightness o)) x (set_finished (o ∷ os) g f)) (join_base p os os' (joined o g) g' f)

join_step : (p : ℕ) (o : Open) (os : List Open) (g : Formula) (f : Formulas) → p ≤ tightness o → join p (o ∷ os) g f ≡ join p os (joined o g) f
unfolding join
join_step p o os g f h = ap (λ (b : Bool). cond b (join p os (joined o g) f) (set_finished (o ∷ os) g f)) (le-leb p (tightness o) h)

join-below : (p : ℕ) (os : List Open) (g : Formula) (f : Formulas) → below p os ≡ true → join p os g f ≡ set_finished os g f
unfolding join below
join-below p [] g f h = refl
join-below p (o ∷ os) g f h =
    ap (λ (b : Bool). cond b (join p os (joined o g) f) (set_finished (o ∷ os) g f)) (lt-leb p (tightness o) (ltb-true (tightness o) p h))

below_more : (p q : ℕ) (os : List Open) → p ≤ q → below p os ≡ true → below q os ≡ true
unfolding below
below_more p q [] l h = refl
below_more p q (o ∷ os) l h = let t = ltb-true (tightness o) p h in lt-ltb (tightness o) q (omega (arith, t, l))

-- to close as far as a tight level and then further is to close further
module _ (p q : ℕ) (l : p ≤ q) (f : Formulas) where
  close_cases : (o : Open) (os : List Open) (g : Formula) (b : Bool) → leb q (tightness o) ≡ b → close_at p (join q os (joined o g) f) ≡ join p os (joined o g) f →
      close_at p (cond b (join q os (joined o g) f) (set_finished (o ∷ os) g f)) ≡ join p (o ∷ os) g f
  unfolding close_at set_finished
  close_cases o os g true e ih = let t = leb-true q (tightness o) e in ih ∙ sym (join_step p o os g f (omega (arith, t, l)))
  close_cases o os g false e ih = join_base p (o ∷ os) (o ∷ os) g g f

  close_join : (os : List Open) (g : Formula) → close_at p (join q os g f) ≡ join p os g f
  unfolding close_at join set_finished
  close_join [] g = refl
  close_join (o ∷ os) g = close_cases o os g (leb q (tightness o)) refl (close_join os (joined o g))

close_close : (p q : ℕ) (f : Formulas) → p ≤ q → close_at p (close_at q f) ≡ close_at p f
unfolding close_at
close_close p q f l = close_join p q l f f.opened f.finished

read_append : (xs ys : List Signed) (f : Formulas) → read_chain (xs ++ ys) f ≡ read_chain ys (read_chain xs f)
unfolding read_chain
read_append [] ys f = refl
read_append (x ∷ xs) ys f = read_append xs ys _

module _ (f : Formulas) where
  abbrev S : List Open → Formula → Formulas
  S os g = set_finished os g f

  close_below : (p : ℕ) (os : List Open) (g : Formula) → below p os ≡ true → close_at p (S os g) ≡ S os g
  unfolding close_at set_finished
  close_below p os g h = join-below p os g (S os g) h

  -- an operator that binds as tight as that is joined
  close_step : (p : ℕ) (o : Open) (os : List Open) (g : Formula) → p ≤ tightness o → close_at p (S (o ∷ os) g) ≡ close_at p (S os (joined o g))
  unfolding close_at set_finished
  close_step p o os g h =
      join_base p (o ∷ os) (o ∷ os) g g f ∙ join_step p o os g f h ∙ sym (join_base p os os (joined o g) (joined o g) f)

  -- a sign is met where what stands before it closes to g
  read_sign : (s : Sign) (h g : Formula) (os : List Open) (ys : List Signed) (before : Formulas) → close_at (least s) before ≡ S os g →
      read_chain (signed s h ∷ ys) before ≡ read_chain ys (S (opening s g ∷ os) h)
  unfolding read_chain meet_sign open_sign set_opened set_finished
  read_sign s h g os ys before e =
      ap (λ (x : Formulas). read_chain ys (set_finished (open_sign s x).opened h (open_sign s x))) e

  read_behind : (s : Sign) (x h g : Formula) (os : List Open) (xs ys : List Signed) → close_at (least s) (read_chain xs (S os x)) ≡ S os g →
      read_chain (xs ++ (signed s h ∷ ys)) (S os x) ≡ read_chain ys (S (opening s g ∷ os) h)
  read_behind s x h g os xs ys e = read_append xs (signed s h ∷ ys) (S os x) ∙ read_sign s h g os ys (read_chain xs (S os x)) e

  read_and : {x g : Formula} {xs : List Signed} (os : List Open) → And x xs g → below 4 os ≡ true → close_at 4 (read_chain xs (S os x)) ≡ S os g
  unfolding read_chain least opening tightness joined
  read_and {x} os one_item b = close_below 4 os x b
  read_and {x} os (and_item {g} {xs} h a) b =
      ap (close_at 4) (read_behind and_sign x h g os xs [] (read_and os a b))
      ∙ close_step 4 (conjoining g) os h (omega arith)
      ∙ close_below 4 os (both g h) b

  read_or : {x g : Formula} {xs : List Signed} (os : List Open) → Or x xs g → below 3 os ≡ true → close_at 3 (read_chain xs (S os x)) ≡ S os g
  unfolding least opening tightness joined below
  read_or {x} {g} {xs} os (one_and a) b =
      sym (close_close 3 4 (read_chain xs (S os x)) (omega arith))
      ∙ ap (close_at 3) (read_and os a (below_more 3 4 os (omega arith) b))
      ∙ close_below 3 os g b
  read_or {x} os (or_and {g} {h} {k} {xs} {ys} r a) b =
      ap (close_at 3) (read_behind or_sign x h g os xs ys (read_or os r b))
      ∙ sym (close_close 3 4 (read_chain ys (S (disjoining g ∷ os) h)) (omega arith))
      ∙ ap (close_at 3) (read_and (disjoining g ∷ os) a refl)
      ∙ close_step 3 (disjoining g) os k (omega arith)
      ∙ close_below 3 os (either g k) b

  read_implies : {x g : Formula} {xs : List Signed} (os : List Open) → Implies x xs g → below 3 os ≡ true →
      close_at 2 (read_chain xs (S os x)) ≡ close_at 2 (S os g)
  unfolding least opening tightness joined below
  read_implies {x} {xs} os (one_or r) b =
      sym (close_close 2 3 (read_chain xs (S os x)) (omega arith)) ∙ ap (close_at 2) (read_or os r b)
  read_implies {x} os (or_implies {g} {h} {k} {xs} {ys} r i) b =
      ap (close_at 2) (read_behind implies_sign x h g os xs ys (read_or os r b))
      ∙ read_implies (implying g ∷ os) i refl
      ∙ close_step 2 (implying g) os k (omega arith)

  close_implies : (x g : Formula) (xs : List Signed) (os os' : List Open) → close_at 2 (read_chain xs (S os x)) ≡ close_at 2 (S os' g) →
      close_at 1 (read_chain xs (S os x)) ≡ close_at 1 (S os' g)
  close_implies x g xs os os' e =
      sym (close_close 1 2 (read_chain xs (S os x)) (omega arith)) ∙ ap (close_at 1) e ∙ close_close 1 2 (S os' g) (omega arith)

  read_iff : {x g : Formula} {xs : List Signed} (os : List Open) → Iff x xs g → below 1 os ≡ true → close_at 1 (read_chain xs (S os x)) ≡ S os g
  unfolding least opening tightness joined below
  read_iff {x} {g} {xs} os (one_implies i) b =
      close_implies x g xs os os (read_implies os i (below_more 1 3 os (omega arith) b)) ∙ close_below 1 os g b
  read_iff {x} os (iff_implies {g} {h} {k} {xs} {ys} r i) b =
      ap (close_at 1) (read_behind iff_sign x h g os xs ys (read_iff os r b))
      ∙ close_implies h k ys (equating g ∷ os) (equating g ∷ os) (read_implies (equating g ∷ os) i refl)
      ∙ close_step 1 (equating g) os k (omega arith)
      ∙ close_below 1 os (same g k) b

-- a part that is counted leaves the formulas
mark_formulas : (c : Bool) (p : ℕ) (b : Builder) → (mark_at c p limit_fault b).formulas ≡ b.formulas
unfolding mark_at with_marks
mark_formulas true p b = refl
mark_formulas false p b = refl

count_formulas : (b : Builder) → (count_part b).formulas ≡ b.formulas
unfolding count_part with_counts mark
count_formulas b = mark_formulas _ _ b

sign_met : (s : Sign) (b : Builder) → (at_sign s b).formulas ≡ meet_sign s b.formulas
unfolding at_sign meet_sign open_sign least opening close_at join_and join_or join_implies join_iff join_by open_now with_formulas
sign_met and_sign b = ap (λ (f : Formulas). open_sign and_sign (close_at 4 f)) (count_formulas b)
sign_met or_sign b = ap (λ (f : Formulas). open_sign or_sign (close_at 3 f)) (count_formulas b)
sign_met implies_sign b = ap (λ (f : Formulas). open_sign implies_sign (close_at 3 f)) (count_formulas b)
sign_met iff_sign b = ap (λ (f : Formulas). open_sign iff_sign (close_at 1 f)) (count_formulas b)

end_met : (b : Builder) → (close_formula b).formulas ≡ close_at 1 b.formulas
unfolding close_formula join_by with_formulas close_at
end_met b = refl

-- A chain with one more item in front: at the level of the sign behind that item, and at the levels above.
module _ (f h : Formula) where
  alone : Or f [] f
  alone = one_and one_item

  front_and : {k : Formula} {ys : List Signed} → And h ys k → (g : Formula) × And f (signed and_sign h ∷ ys) g
  front_and one_item = (both f h, and_item h one_item)
  front_and (and_item i a) = let (g, b) = front_and a in (both g i, and_item i b)

  front_or_and : {k : Formula} {ys : List Signed} → Or h ys k → (g : Formula) × Or f (signed and_sign h ∷ ys) g
  front_or_and (one_and a) = let (g, b) = front_and a in (g, one_and b)
  front_or_and (or_and {k} r a) = let (g, b) = front_or_and r in (either g k, or_and b a)

  front_or : {k : Formula} {ys : List Signed} → Or h ys k → (g : Formula) × Or f (signed or_sign h ∷ ys) g
  front_or (one_and {g} a) = (either f g, or_and alone a)
  front_or (or_and {k} r a) = let (g, b) = front_or r in (either g k, or_and b a)

  module _ (s : Sign) (front : (k : Formula) (ys : List Signed) → Or h ys k → (g : Formula) × Or f (signed s h ∷ ys) g) where
    front_implies : {k : Formula} {ys : List Signed} → Implies h ys k → (g : Formula) × Implies f (signed s h ∷ ys) g
    front_implies (one_or r) = let (g, b) = front _ _ r in (g, one_or b)
    front_implies (or_implies {k} r i) = let (g, b) = front _ _ r in (implies g k, or_implies b i)

  module _ (s : Sign) (front : (k : Formula) (ys : List Signed) → Implies h ys k → (g : Formula) × Implies f (signed s h ∷ ys) g) where
    front_iff : {k : Formula} {ys : List Signed} → Iff h ys k → (g : Formula) × Iff f (signed s h ∷ ys) g
    front_iff (one_implies i) = let (g, b) = front _ _ i in (g, one_implies b)
    front_iff (iff_implies {k} r i) = let (g, b) = front_iff r in (same g k, iff_implies b i)

  front_same : {k : Formula} {ys : List Signed} → Iff h ys k → (g : Formula) × Iff f (signed iff_sign h ∷ ys) g
  front_same (one_implies {g} i) = (same f g, iff_implies (one_implies (one_or alone)) i)
  front_same (iff_implies {k} r i) = let (g, b) = front_same r in (same g k, iff_implies b i)

  front_far : {k : Formula} {ys : List Signed} → Implies h ys k → (g : Formula) × Implies f (signed implies_sign h ∷ ys) g
  front_far {k} i = (implies f k, or_implies alone i)

  front_of : (s : Sign) {k : Formula} {ys : List Signed} → Iff h ys k → (g : Formula) × Iff f (signed s h ∷ ys) g
  front_of and_sign r = front_iff and_sign (λ k ys i. front_implies and_sign (λ k ys o. front_or_and o) i) r
  front_of or_sign r = front_iff or_sign (λ k ys i. front_implies or_sign (λ k ys o. front_or o) i) r
  front_of implies_sign r = front_iff implies_sign (λ k ys i. front_far i) r
  front_of iff_sign r = front_same r

has_reading : (x : Formula) (xs : List Signed) → (g : Formula) × Iff x xs g
has_reading x [] = (x, one_implies (one_or (one_and one_item)))
has_reading x (y ∷ ys) = let (g, r) = has_reading y.item ys in front_of x y.item y.sign r

pub joining_claims : JoiningClaims
joining_claims =
    record {
      has_reading = has_reading;
      sign_met = sign_met;
      end_met = end_met;
      read_so = λ os f i b. read_iff f os i b;
    }
