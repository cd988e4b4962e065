-- Bytes written behind each other into a buffer of zeros.
use Prim.Native.Nat.{ℕ, ◌+◌, ◌-◌, ◌≤◌, ◌<◌}
use native.Mathlib.Omega.{arith}
use mathlib.Core.Path.{◌≡◌, refl, sym, ap, ◌∙◌}
use mathlib.Core.Logic.{⊎_elim}
use mathlib.Core.Bool.{Bool, true, false, cond}
use mathlib.Core.List.{List, [], ◌∷◌, ◌++◌, map, append_assoc, append-nil}
use lib.ListN.{length, get_or, set, length-append, length-set, length-map}
use lib.Dec.{eqb}
use borrow.Author.Tests.{eq-eqb, ne_eqb, eqb-true, eqb-false}
use Rattle.logic.specs.Search.{from, select}
use Rattle.logic.specs.Calls.{padded}
use Rattle.logic.specs.Shown.{place_of}
use Rattle.theory.proofs.Basics.Search.{bool_cases}
use Rattle.lent.specs.Appending.{Appends}
use Rattle.lent.proofs.Writing.{appends_none, appends_byte, appends_then}
use Rattle.rows.proofs.Selections.{select_end, select_here, select_skip}
use Rattle.completion.proofs.Links.{number_set}

-- the bytes of what is marked, of the numbers below t
pub record Put (q : ℕ → Bool) (f : ℕ → ℕ) (n at t to : ℕ) (old cur : List ℕ) : Type 0 where
  pub written : List ℕ
  pub appended : Appends old cur at written
  pub placed : to ≡ at + length written
  pub left : written ++ map f (select q (from (n + 1 - t) t)) ≡ map f (select q (from (n + 1 - 0) 0))
  pub same : length cur ≡ length old

module _ (q : ℕ → Bool) (f : ℕ → ℕ) (n at : ℕ) where
  pub put-none : (old : List ℕ) → Put q f n at 0 at old old
  put-none old = record { written = []; appended = appends_none old at; placed = omega arith; left = refl; same = refl }

  module _ (t to : ℕ) (old cur : List ℕ) (now : Put q f n at t to old cur) where
    -- how much is left to write
    sizes : to + length (select q (from (n + 1 - t) t)) ≡ at + length (select q (from (n + 1 - 0) 0))
    sizes =
        let e = ap length now.left in
        omega (arith, length-append now.written (map f (select q (from (n + 1 - t) t))), length-map (select q (from (n + 1 - t) t)) f, length-map (select q (from (n + 1 - 0) 0)) f, now.placed)

    pub put_room : t ≤ n → q t ≡ true → at + length (select q (from (n + 1 - 0) 0)) ≤ length old → to < length cur
    put_room h e r = omega (arith, sizes, ap length (select_here q (n + 1) t (omega arith) e), now.same)

    pub put_skip : t ≤ n → q t ≡ false → Put q f n at (t + 1) to old cur
    put_skip h e =
        record {
          written = now.written;
          appended = now.appended;
          placed = now.placed;
          left = ap (λ (ts : List ℕ). now.written ++ map f ts) (sym (select_skip q (n + 1) t (omega arith) e)) ∙ now.left;
          same = now.same;
        }

    pub put-here : t ≤ n → q t ≡ true → at + length (select q (from (n + 1 - 0) 0)) ≤ length old → (v : ℕ) → v ≡ f t → Put q f n at (t + 1) (to + 1) old (set cur to v)
    put-here h e r v w =
        let rest : List ℕ = map f (select q (from (n + 1 - (t + 1)) (t + 1))) in
        record {
          written = now.written ++ (v ∷ []);
          appended = appends_then old cur (set cur to v) at to now.written (v ∷ []) now.same now.placed now.appended (appends_byte cur to v (put_room h e r));
          placed = omega (arith, now.placed, length-append now.written (v ∷ []));
          left = append_assoc now.written (v ∷ []) rest
              ∙ ap (λ (b : ℕ). now.written ++ (b ∷ rest)) w
              ∙ ap (λ (ts : List ℕ). now.written ++ map f ts) (sym (select_here q (n + 1) t (omega arith) e))
              ∙ now.left;
          same = length-set cur to v ∙ now.same;
        }

    pub put_all : n < t → (to ≡ at + length (select q (from (n + 1 - 0) 0))) × Appends old cur at (map f (select q (from (n + 1 - 0) 0)))
    put_all h =
        let s = select_end q (n + 1) t (omega arith) in
        let none = ap length s in
        let whole : now.written ≡ map f (select q (from (n + 1 - 0) 0)) = sym (append-nil now.written) ∙ ap (λ (ts : List ℕ). now.written ++ map f ts) (sym s) ∙ now.left in
        (omega (arith, sizes), λ front e o. now.appended front e o ∙ ap (λ (ys : List ℕ). padded (length old) (front ++ ys)) whole)

-- the same, where each byte is put at the place of its number among those that are marked
pub record PutAt (q : ℕ → Bool) (f : ℕ → ℕ) (n at t : ℕ) (old cur : List ℕ) : Type 0 where
  pub to : ℕ
  pub put : Put q f n at t to old cur
  pub places : (x : ℕ) → t ≤ x → at + place_of x (select q (from (n + 1 - 0) 0)) ≡ to + place_of x (select q (from (n + 1 - t) t))

module _ (q : ℕ → Bool) (f : ℕ → ℕ) (n at : ℕ) where
  pub put-at-none : (old : List ℕ) → PutAt q f n at 0 old old
  put-at-none old = record { to = at; put = put-none q f n at old; places = λ x l. refl }

  module _ (t : ℕ) (old cur : List ℕ) (now : PutAt q f n at t old cur) where
    pub put-at_skip : t ≤ n → q t ≡ false → PutAt q f n at (t + 1) old cur
    put-at_skip h e =
        record {
          to = now.to;
          put = put_skip q f n at t now.to old cur now.put h e;
          places = λ x l. now.places x (omega arith) ∙ ap (λ (ts : List ℕ). now.to + place_of x ts) (select_skip q (n + 1) t (omega arith) e);
        }

    module _ (h : t ≤ n) (e : q t ≡ true) (p : ℕ) (is : p ≡ place_of t (select q (from (n + 1 - 0) 0))) where
      -- the number's place is the next one
      pub put-at-place : at + p ≡ now.to + 1
      unfolding place_of
      put-at-place =
          ap (λ (k : ℕ). at + k) is
          ∙ now.places t (omega arith)
          ∙ ap (λ (ts : List ℕ). now.to + place_of t ts) (select_here q (n + 1) t (omega arith) e)
          ∙ rw (eq-eqb t t refl)

      pub put-at_room : at + length (select q (from (n + 1 - 0) 0)) ≤ length old → at + p - 1 < length cur
      put-at_room r = let l = put_room q f n at t now.to old cur now.put h e r in omega (arith, put-at-place)

      pub put-at-here : at + length (select q (from (n + 1 - 0) 0)) ≤ length old → (v : ℕ) → v ≡ f t → PutAt q f n at (t + 1) old (set cur (at + p - 1) v)
      unfolding place_of
      put-at-here r v w =
          record {
            to = now.to + 1;
            put = rw place (put-here q f n at t now.to old cur now.put h e r v w);
            places = λ x l. now.places x (omega arith)
                ∙ ap (λ (ts : List ℕ). now.to + place_of x ts) (select_here q (n + 1) t (omega arith) e)
                ∙ rw (ne_eqb t x (λ i. omega arith)) (omega arith);
          }
        where
          place : at + p - 1 ≡ now.to
          place = omega (arith, put-at-place)

    pub put-at_all : n < t → Appends old cur at (map f (select q (from (n + 1 - 0) 0)))
    put-at_all h = (put_all q f n at t now.to old cur now.put h).1

-- a list of bytes that is filled from lo on
pub filled_more : (g : ℕ → ℕ) (lo : ℕ) (bytes : List ℕ) (t : ℕ) → t < length bytes → (b : ℕ) → b ≡ g t →
    ((x : ℕ) → lo ≤ x → x < t → get_or bytes x 0 ≡ g x) → (x : ℕ) → lo ≤ x → x < t + 1 → get_or (set bytes t b) x 0 ≡ g x
filled_more g lo bytes t h b e m x l r = number_set bytes t h b x ∙ ⊎_elim here there (bool_cases (eqb x t))
  where
    here : eqb x t ≡ true → cond (eqb x t) b (get_or bytes x 0) ≡ g x
    here i = rw (i, eqb-true x t i) e

    there : eqb x t ≡ false → cond (eqb x t) b (get_or bytes x 0) ≡ g x
    there i = let d = eqb-false x t i in rw i (m x l (omega arith))
