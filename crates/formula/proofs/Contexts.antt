-- What the scan has passed begins a text of the grammar.
use Prim.Native.Nat.{ℕ, zero, suc}
use mathlib.Core.Path.{◌≡◌, refl, sym, ap, ◌∙◌, subst}
use mathlib.Core.Bool.{true}
use mathlib.Core.List.{List, [], ◌∷◌, ◌++◌, append_assoc, append-nil}
use Rattle.logic.specs.Search.{◌and◌, all}
use Rattle.theory.proofs.Basics.Search.{all_append}
use Rattle.text.specs.Text.{is_digit}
use Rattle.formula.specs.Grammar.{Letter, E, letter_byte, Formula, literal, both, either, is_blank, is_place, shown, Level}
use Rattle.formula.specs.Grammar.{disjunction, conjunction, item, Reads, one_and, one_item, name, parentheses, Text, Begins}
use Rattle.formula.proofs.Scan.{State, wants, named, counted, after}

-- Blanks before and behind, and texts joined

pub blank_before : (level : Level) {t : List ℕ} {f : Formula} → Reads level t f → Reads level (32 ∷ t) f
blank_before disjunction (one_and x) = one_and (blank_before conjunction x)
blank_before disjunction (Reads.or x y) = Reads.or (blank_before conjunction x) y
blank_before conjunction (one_item x) = one_item (blank_before item x)
blank_before conjunction (Reads.and x y) = Reads.and (blank_before item x) y
blank_before item (name l before digits behind a p c) = name l (32 ∷ before) digits behind (more before a) p c
  where
    more : (bs : List ℕ) → all is_blank bs ≡ true → all is_blank (32 ∷ bs) ≡ true
    more bs h = unfold all is_blank ◌and◌ in h
blank_before item (parentheses before behind a x c) = parentheses (32 ∷ before) behind (more before a) x c
  where
    more : (bs : List ℕ) → all is_blank bs ≡ true → all is_blank (32 ∷ bs) ≡ true
    more bs h = unfold all is_blank ◌and◌ in h

abbrev space : List ℕ
space = 32 ∷ []

one_blank : all is_blank space ≡ true
one_blank = unfold all is_blank ◌and◌ in refl

pub blank_behind : (level : Level) {t : List ℕ} {f : Formula} → Reads level t f → Reads level (t ++ space) f
blank_behind disjunction (one_and x) = one_and (blank_behind conjunction x)
blank_behind disjunction (Reads.or {t} {u} {f} {g} x y) = subst (λ (w : List ℕ). Reads disjunction w (either f g)) (sym (append_assoc t (124 ∷ u) space)) (Reads.or x (blank_behind disjunction y))
blank_behind conjunction (one_item x) = one_item (blank_behind item x)
blank_behind conjunction (Reads.and {t} {u} {f} {g} x y) = subst (λ (w : List ℕ). Reads conjunction w (both f g)) (sym (append_assoc t (38 ∷ u) space)) (Reads.and x (blank_behind conjunction y))
blank_behind item (name l before digits behind a p c) =
    subst (λ (w : List ℕ). Reads item w (literal l (shown 0 digits)))
    (ap (λ (w : List ℕ). before ++ (letter_byte l ∷ w)) (sym (append_assoc digits behind space)) ∙ sym (append_assoc before (letter_byte l ∷ (digits ++ behind)) space))
    (name l before digits (behind ++ space) a p (all_append is_blank behind space c one_blank))
blank_behind item (parentheses {t} {f} before behind a x c) =
    subst (λ (w : List ℕ). Reads item w f) (ap (λ (w : List ℕ). before ++ (40 ∷ w)) (sym (append_assoc t (41 ∷ behind) space)) ∙ sym (append_assoc before (40 ∷ (t ++ (41 ∷ behind))) space))
    (parentheses before (behind ++ space) a x (all_append is_blank behind space c one_blank))

item-and : {t u : List ℕ} {f g : Formula} → Reads item t f → Reads disjunction u g → Text (t ++ (38 ∷ u))
item-and {f = f} x (one_and {f = g} y) = (both f g, one_and (Reads.and x y))
item-and {t} {f = f} x (Reads.or {t = a} {u = b} {f = g} {g = h} y z) =
    (either (both f g) h, subst (λ (w : List ℕ). Reads disjunction w (either (both f g) h)) (append_assoc t (38 ∷ a) (124 ∷ b)) (Reads.or (Reads.and x y) z))

conjunction-and : {t u : List ℕ} {f g : Formula} → Reads conjunction t f → Reads disjunction u g → Text (t ++ (38 ∷ u))
conjunction-and (one_item x) z = item-and x z
conjunction-and {u = u} (Reads.and {t} {u = v} x y) z = let (h, r) = conjunction-and y z in
    let (k, s) = item-and x r in
    (k, subst (λ (w : List ℕ). Reads disjunction w k) (sym (append_assoc t (38 ∷ v) (38 ∷ u))) s)

pub or_and : {t u : List ℕ} {f g : Formula} → Reads disjunction t f → Reads disjunction u g → Text (t ++ (38 ∷ u))
or_and (one_and x) z = conjunction-and x z
or_and {u = u} (Reads.or {t} {u = v} {f = f} x y) z = let (h, r) = or_and y z in
    (either f h, subst (λ (w : List ℕ). Reads disjunction w (either f h)) (sym (append_assoc t (124 ∷ v) (38 ∷ u))) (Reads.or x r))

pub or-or : {t u : List ℕ} {f g : Formula} → Reads disjunction t f → Reads disjunction u g → Text (t ++ (124 ∷ u))
or-or {f = f} {g = g} (one_and x) z = (either f g, Reads.or x z)
or-or {u = u} (Reads.or {t} {u = v} {f = f} x y) z = let (h, r) = or-or y z in
    (either f h, subst (λ (w : List ℕ). Reads disjunction w (either f h)) (sym (append_assoc t (124 ∷ v) (124 ∷ u))) (Reads.or x r))

-- what may follow an item that has ended, inside d parentheses
pub data Follows : ℕ → List ℕ → Type 0 where
  nothing : Follows 0 []
  an_and : {d : ℕ} {u r : List ℕ} {f : Formula} → Reads disjunction u f → Follows d r → Follows d (38 ∷ (u ++ r))
  an_or : {d : ℕ} {u r : List ℕ} {f : Formula} → Reads disjunction u f → Follows d r → Follows d (124 ∷ (u ++ r))
  a_close : {d : ℕ} {r : List ℕ} → Follows d r → Follows (suc d) (41 ∷ r)
  a_blank : {d : ℕ} {r : List ℕ} → Follows d r → Follows d (32 ∷ r)

abbrev pub Wanting : ℕ → List ℕ → Type 0
Wanting d t = (u r : List ℕ) (f : Formula) → Reads disjunction u f → Follows d r → Text (t ++ (u ++ r))

abbrev pub Ended : ℕ → List ℕ → Type 0
Ended d t = (r : List ℕ) → Follows d r → Text (t ++ r)

pub textual : {a b : List ℕ} → a ≡ b → Text a → Text b
textual e t = subst Text e t

pub wanting_start : (u r : List ℕ) (f : Formula) → Reads disjunction u f → Follows 0 r → Text (u ++ r)
wanting_start u [] f x nothing = textual (sym (append-nil u)) (f, x)
wanting_start u r f x (an_and {u = v} {r = s} y z) = let (g, w) = or_and x y in textual (append_assoc u (38 ∷ v) s) (wanting_start (u ++ (38 ∷ v)) s g w z)
wanting_start u r f x (an_or {u = v} {r = s} y z) = let (g, w) = or-or x y in textual (append_assoc u (124 ∷ v) s) (wanting_start (u ++ (124 ∷ v)) s g w z)
wanting_start u r f x (a_blank {r = s} z) = textual (append_assoc u space s) (wanting_start (u ++ space) s f (blank_behind disjunction x) z)

pub wanting_open : (d : ℕ) (t : List ℕ) → Wanting d t → (u r : List ℕ) (f : Formula) → Reads disjunction u f → Follows (suc d) r → Text ((t ++ (40 ∷ [])) ++ (u ++ r))
wanting_open d t h u r f x (an_and {u = v} {r = s} y z) = let (g, w) = or_and x y in
    textual (ap (λ (a : List ℕ). (t ++ (40 ∷ [])) ++ a) (append_assoc u (38 ∷ v) s)) (wanting_open d t h (u ++ (38 ∷ v)) s g w z)
wanting_open d t h u r f x (an_or {u = v} {r = s} y z) = let (g, w) = or-or x y in
    textual (ap (λ (a : List ℕ). (t ++ (40 ∷ [])) ++ a) (append_assoc u (124 ∷ v) s)) (wanting_open d t h (u ++ (124 ∷ v)) s g w z)
wanting_open d t h u r f x (a_blank {r = s} z) = textual (ap (λ (a : List ℕ). (t ++ (40 ∷ [])) ++ a) (append_assoc u space s)) (wanting_open d t h (u ++ space) s f (blank_behind disjunction x) z)
wanting_open d t h u r f x (a_close {r = s} z) =
    textual (ap (λ (a : List ℕ). t ++ (40 ∷ a)) (append_assoc u (41 ∷ []) s) ∙ sym (append_assoc t (40 ∷ []) (u ++ (41 ∷ s))))
    (h (40 ∷ (u ++ (41 ∷ []))) s f (one_and (one_item (parentheses [] [] (unfold all in refl) x (unfold all in refl)))) z)

-- what each state of the scan says of the bytes that it has passed
abbrev pub Passed : State → List ℕ → Type 0
Passed (wants d) t = Wanting d t
Passed (named d) t = (s : List ℕ) × (l : Letter) × (t ≡ s ++ (letter_byte l ∷ [])) × Wanting d s
Passed (counted d) t = (s : List ℕ) × (l : Letter) × (ds : List ℕ) × (t ≡ s ++ (letter_byte l ∷ ds)) × (is_place ds ≡ true) × Wanting d s
Passed (after d) t = Ended d t

name_text : (l : Letter) (ds : List ℕ) → is_place ds ≡ true → Reads disjunction (letter_byte l ∷ ds) (literal l (shown 0 ds))
name_text l ds p = subst (λ (w : List ℕ). Reads disjunction (letter_byte l ∷ w) (literal l (shown 0 ds))) (append-nil ds)
    (one_and (one_item (name l [] ds [] (unfold all in
    refl) p (unfold all in
    refl))))

pub name_ended : (d : ℕ) (s : List ℕ) (l : Letter) (ds : List ℕ) → is_place ds ≡ true → Wanting d s → Ended d (s ++ (letter_byte l ∷ ds))
name_ended d s l ds p h r z = textual (sym (append_assoc s (letter_byte l ∷ ds) r)) (h (letter_byte l ∷ ds) r (literal l (shown 0 ds)) (name_text l ds p) z)

closers : (d : ℕ) → (r : List ℕ) × Follows d r
closers zero = ([], nothing)
closers (suc d) = let (r, z) = closers d in (41 ∷ r, a_close z)

pub passed_begins : (s : State) (t : List ℕ) → Passed s t → Begins t
passed_begins (wants d) t h = let (r, z) = closers d in ((69 ∷ 49 ∷ []) ++ r, h (69 ∷ 49 ∷ []) r (literal E 1) (unfold letter_byte shown is_place is_digit all ◌and◌ in name_text E (49 ∷ []) refl) z)
passed_begins (named d) t (s, l, e, h) = let (r, z) = closers d in (
  (49 ∷ []) ++ r,
  textual (append_assoc s (letter_byte l ∷ 49 ∷ []) r ∙ sym (append_assoc s (letter_byte l ∷ []) (49 ∷ r))
      ∙ ap (λ (w : List ℕ). w ++ (49 ∷ r)) (sym e)) (name_ended d s l (49 ∷ []) (unfold is_place is_digit all ◌and◌ in refl) h r z),
)
passed_begins (counted d) t (s, l, ds, e, p, h) = let (r, z) = closers d in (r, textual (ap (λ (w : List ℕ). w ++ r) (sym e)) (name_ended d s l ds p h r z))
passed_begins (after d) t h = let (r, z) = closers d in (r, h r z)
