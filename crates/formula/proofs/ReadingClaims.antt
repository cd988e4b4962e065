-- What is claimed of the texts that are read and of those that are refused holds.
use Prim.Native.Nat.{ℕ, ◌-◌, ◌≤◌, ◌<◌}
use native.Mathlib.Omega.{arith}
use mathlib.Core.Path.{◌≡◌, refl, sym, ap, ◌∙◌, subst}
use mathlib.Core.Logic.{◌⊎◌, ⊎_elim, inl, inr, ◌↔◌}
use mathlib.Core.Bool.{Bool, true, false}
use mathlib.Core.List.{List, [], ◌∷◌, append-nil}
use lib.ListN.{length}
use lib.Dec.{eqb}
use borrow.Author.Tests.{eqb-true, eqb-false}
use Rattle.formula.specs.Grammar.{Letter, Formula, disjunction, Reads, Within}
use Rattle.formula.specs.Places.{Outside, byte, ended, Absent, TooDeep, Fault17, FirstFault, wrong, deep}
use Rattle.formula.specs.Reader.{Reading, refused, done, and_then, read, calls, read_text}
use Rattle.formula.specs.Reader as reader
use Rattle.formula.specs.ReadingClaims.{Accepted, RefusedAt, ReadingClaims}
use Rattle.formula.proofs.Marks.{mark-closing}
use Rattle.formula.proofs.Scan.{State, wants, after, fault, closes, after_by, end_of, scan, scan-stop, after-move}
use Rattle.formula.proofs.Reading.{Stops, Found, As, ends_wrong, reads_as}
use Rattle.formula.proofs.Complete.{always, all-always, whole_complete}
use Rattle.formula.proofs.Complete as complete
use Rattle.formula.proofs.Faults.{read-clean, Run, went, went_whole}
use Rattle.formula.proofs.FirstFault.{not_outside, not_absent, not_deep, went_first, first_unique}

done_refused : {f : Formula} {k : ℕ} {r s : List ℕ} → done f r ≡ refused k s → ⊥
done_refused e = let z : ◌≡◌ {A = ℕ} 0 1 = cc in omega arith

done_same : {f g : Formula} {r s : List ℕ} → done f r ≡ done g s → (f ≡ g) × (r ≡ s)
done_same e = (cc, cc)

refused_same : {j k : ℕ} {r s : List ℕ} → refused j r ≡ refused k s → (j ≡ k) × (r ≡ s)
refused_same e = (cc, cc)

module _ (has : Letter → ℕ → Bool) (text : List ℕ) where
  -- bytes behind the whole text's or are a fault
  left_over : (b : ℕ) (bs : List ℕ) → Stops disjunction (b ∷ bs) → scan has 32 (after 0) (b ∷ bs) ≡ fault 17 (b ∷ bs)
  left_over b bs s = by (eqb b 41) refl
    where
      by : (t : Bool) → eqb b 41 ≡ t → scan has 32 (after 0) (b ∷ bs) ≡ fault 17 (b ∷ bs)
      by true e = scan-stop has 32 (after 0) 17 b bs (after-move has 32 0 b bs (mark-closing (eqb-true b 41 e)) ∙ (unfold after_by closes in refl))
      by false e = ends_wrong has 32 0 b bs s.0 s.1 s.2 (eqb-false b 41 e)

  data Case : Type 0 where
    by_grammar : (f : Formula) → read_text has 32 text ≡ done f [] → Accepted has text f → (x : Reads disjunction text f) → Within 32 x → Case
    by_fault : (k : ℕ) (behind : List ℕ) → read_text has 32 text ≡ refused k behind → FirstFault has text k (length text - length behind) → Case

  faulty : (k : ℕ) (behind : List ℕ) → read_text has 32 text ≡ refused k behind → scan has 32 (wants 0) text ≡ fault k behind → Case
  faulty k behind e s = by_fault k behind e (went_first has text k behind (went has 32 (wants 0) text k behind s))

  sound : (f : Formula) → Found has 32 disjunction 0 text f [] → Accepted has text f
  sound f a =
      record {
        reads = subst (λ (t : List ℕ). Reads disjunction t f) (sym (a.splits ∙ append-nil a.text)) a.reads;
        all_present = a.there;
        not_too_deep = λ p h. let (t, w, c) = went_whole has 32 (wants 0) text (a.goes ∙ (unfold scan end_of in refl)) in not_deep has 32 text text [] (sym (append-nil text)) t w p h.inside h;
      }

  whole : (f : Formula) → Found has 32 disjunction 0 text f [] → (x : Reads disjunction text f) × Within 32 x
  whole f a = subst (λ (t : List ℕ). (x : Reads disjunction t f) × Within 32 x) (sym (a.splits ∙ append-nil a.text)) (a.reads, a.shallow)

  cases : Case
  cases = by (read has (calls disjunction (length text)) disjunction 32 text) refl (reads_as has 32 (calls disjunction (length text)) disjunction 0 32 (omega arith) text (omega arith))
    where
      by : (r : Reading) → read has (calls disjunction (length text)) disjunction 32 text ≡ r → As has 32 disjunction 0 text r → Case
      by (refused k s) e a = faulty k s (unfold read_text and_then in rw e refl) a
      by (done f []) e a = by_grammar f (unfold read_text and_then reader.ended in rw e refl) (sound f a) (whole f a).0 (whole f a).1
      by (done f (b ∷ bs)) e a = faulty 17 (b ∷ bs) (unfold read_text and_then reader.ended in rw e refl) (a.goes ∙ left_over b bs a.stops)

  -- a text that is accepted has no fault
  module _ (f : Formula) (a : Accepted has text f) where
    way : (t : State) × Run has (length text) [] (wants 0) text t
    way = let (t, w, c) = went_whole has (length text) (wants 0) text (read-clean has text f a.reads a.all_present (length text) (omega arith)) in (t, w)

    no_17 : (p : ℕ) → Fault17 has text p → ⊥
    no_17 p h = ⊎_elim outside absent h
      where
        outside : Outside text p → ⊥
        outside (byte i b n) = not_outside has (length text) text text [] (sym (append-nil text)) way.0 way.1 p i (byte i b n)
        outside (ended i b n) = n (f, a.reads)

        absent : Absent has text p → ⊥
        absent x = not_absent has (length text) text text [] (sym (append-nil text)) way.0 way.1 p x.inside x

    no_fault : (k p : ℕ) → FirstFault has text k p → ⊥
    no_fault k p (wrong h n) = no_17 p h
    no_fault k p (deep h m n) = a.not_too_deep p h

  accepted_exactly : (f : Formula) → (read_text has 32 text ≡ done f []) ↔ Accepted has text f
  accepted_exactly f = (λ h. there h cases, λ a. back a cases)
    where
      there : read_text has 32 text ≡ done f [] → Case → Accepted has text f
      there h (by_grammar g e a x w) = subst (Accepted has text) (done_same (sym e ∙ h)).0 a
      there h (by_fault k s e x) = absurd (done_refused (sym h ∙ e))

      back : Accepted has text f → Case → read_text has 32 text ≡ done f []
      back a (by_grammar g e b x w) = e ∙ ap (λ (x : Formula). done x []) (complete.one_formula text g f b.reads a.reads)
      back a (by_fault k s e x) = absurd (no_fault f a k (length text - length s) x)

  nothing_behind : (f : Formula) (rest : List ℕ) → read_text has 32 text ≡ done f rest → rest ≡ []
  nothing_behind f rest h = by cases
    where
      by : Case → rest ≡ []
      by (by_grammar g e a x w) = (done_same (sym h ∙ e)).1
      by (by_fault k s e x) = absurd (done_refused (sym h ∙ e))

  refused_exactly : (k p : ℕ) → RefusedAt has text k p ↔ FirstFault has text k p
  refused_exactly k p = (λ h. there h.0 h.1 h.2 cases, λ x. back x cases)
    where
      there : (behind : List ℕ) → read_text has 32 text ≡ refused k behind → length text - length behind ≡ p → Case → FirstFault has text k p
      there behind h l (by_grammar g e a x w) = absurd (done_refused (sym e ∙ h))
      there behind h l (by_fault j s e x) =
          let q = refused_same (sym e ∙ h) in
          subst (FirstFault has text k) (ap (λ (w : List ℕ). length text - length w) q.1 ∙ l) (subst (λ (n : ℕ). FirstFault has text n (length text - length s)) q.0 x)

      back : FirstFault has text k p → Case → RefusedAt has text k p
      back x (by_grammar g e a y w) = absurd (no_fault g a k p x)
      back x (by_fault j s e y) = let q = first_unique has text j k (length text - length s) p y x in (s, e ∙ ap (λ (n : ℕ). refused n s) q.0, q.1)

  refused_as : (k p : ℕ) → FirstFault has text k p → ((k ≡ 17) ⊎ (k ≡ 18)) × (p ≤ length text)
  refused_as k p (wrong h n) = (inl refl, ⊎_elim within (λ (x : Absent has text p). let l : p < length text = x.inside in omega arith) h)
    where
      within : Outside text p → p ≤ length text
      within (byte i b n) = omega arith
      within (ended i b n) = omega arith
  refused_as k p (deep h m n) = (inr refl, let l : p < length text = h.inside in omega arith)

  accepted_or_refused : ((f : Formula) × Accepted has text f) ⊎ ((k : ℕ) × (p : ℕ) × FirstFault has text k p)
  accepted_or_refused = by cases
    where
      by : Case → ((f : Formula) × Accepted has text f) ⊎ ((k : ℕ) × (p : ℕ) × FirstFault has text k p)
      by (by_grammar f e a x w) = inl (f, a)
      by (by_fault k s e x) = inr (k, length text - length s, x)

-- where every literal is there, the readers read as deep as the text may be
depth_exactly : (text : List ℕ) (f : Formula) → (Reads disjunction text f × ((p : ℕ) → TooDeep 32 text p → ⊥)) ↔ ((x : Reads disjunction text f) × Within 32 x)
depth_exactly text f = (
  λ h. there (record { reads = h.0; all_present = all-always f; not_too_deep = h.1 }) (cases always text),
  λ h. (h.0, ((accepted_exactly always text f).0 (back h.0 h.1)).not_too_deep),
)
  where
    there : Accepted always text f → Case always text → (x : Reads disjunction text f) × Within 32 x
    there a (by_grammar g e b x w) = subst (λ (h : Formula). (x : Reads disjunction text h) × Within 32 x) (complete.one_formula text g f b.reads a.reads) (x, w)
    there a (by_fault k s e x) = absurd (no_fault always text f a k (length text - length s) x)

    back : (x : Reads disjunction text f) → Within 32 x → read_text always 32 text ≡ done f []
    back x w = unfold read_text and_then reader.ended in rw (whole_complete always text f x (all-always f) 32 w) refl

pub reading_claims : (has : Letter → ℕ → Bool) (text : List ℕ) → ReadingClaims has text
reading_claims has text =
    record {
      accepted_exactly = accepted_exactly has text;
      nothing_behind = nothing_behind has text;
      one_formula = λ f g a b. complete.one_formula text f g a.reads b.reads;
      depth_exactly = depth_exactly text;
      refused_exactly = refused_exactly has text;
      refused_as = refused_as has text;
      accepted_or_refused = accepted_or_refused has text;
      not_both = λ f k p a x. no_fault has text f a k p x;
      one_fault = λ j k p q x y. first_unique has text j k p q x y;
    }
