-- The nested searches: each row's early end, and that together they search the triples in order.
use Prim.Native.Nat.{ℕ, suc, ◌+◌, ◌-◌, ◌≤◌, ◌<◌}
use native.Mathlib.Omega.{arith}
use native.Mathlib.Numerals.{add-one}
use mathlib.Core.Path.{◌≡◌, refl, sym, ap, ◌∙◌, fun_ext}
use mathlib.Core.Bool.{Bool, true, false, cond}
use mathlib.Core.List.{List, [], ◌∷◌, map, Memᴰ}
use mathlib.Core.Option.{Option, none, some, Option-elim}
use lib.ListN.{length, get_or, drop, drop_of_length-le}
use lib.Seq.{drop-cons}
use Rattle.logic.specs.Search.{◌and◌, from, keep, or_else, first_of, find, flat_map}
use Rattle.logic.specs.Facts.{Graph, Facts, link_numbers, live}
use Rattle.logic.specs.Rules.{Rule, Triple, triple, Move, move, applies, triples, rule_of, choose}
use Rattle.logic.specs.Walk.{order_of}
use Rattle.theory.proofs.Basics.Search.{first_of_empty, first_of-append, first_of_alike, from-mem}
use Rattle.theory.proofs.Paths.Ranged.{InRange}
use Rattle.theory.proofs.Calls.OneLink.{first_of-one}
use Rattle.rows.specs.Bits.{bit}
use Rattle.rows.specs.Square.{square}
use Rattle.link_rows.specs.Cube.{cube}
use Rattle.facts.specs.Path.{graph_of, graph_in, path_as}
use Rattle.facts.proofs.Path.{graph_at}
use Rattle.rules.specs.Tests.{pair_test, third_test, is_not_cycle}
use Rattle.rules.specs.Allowed.{allowed}
use Rattle.rules.specs.declared.View.{View}
use Rattle.rules.proofs.Halves.{halves, allowed-any, applies-allowed, rows_are}
use Rattle.rule_choice.specs.Smallest.{in_third, in_second, in_first, move_at, tried_at, tried_by}
use Rattle.rule_choice.specs.Answers.{tried_in}

-- Rows of triples

module _ {A B C : Type 0} (f : B → Option C) where
  first_of-flat_map : (h : A → List B) (xs : List A) → first_of f (flat_map h xs) ≡ first_of (λ x. first_of f (h x)) xs
  unfolding first_of flat_map
  first_of-flat_map h [] = refl
  first_of-flat_map h (x ∷ xs) = first_of-append f (h x) (flat_map h xs) ∙ ap (or_else (first_of f (h x))) (first_of-flat_map h xs)

  first_of-map : (h : A → B) (xs : List A) → first_of f (map h xs) ≡ first_of (λ x. f (h x)) xs
  unfolding first_of
  first_of-map h [] = refl
  first_of-map h (x ∷ xs) = ap (or_else (f (h x))) (first_of-map h xs)

-- the three searches together search all triples, smallest first
pub nested : (n : ℕ) (f : Triple → Option Triple) → first_of f (triples n) ≡ first_of (λ x. first_of (λ y. first_of (λ z. f (triple x y z)) (from (n + 1 - 0) 0)) (from (n + 1 - 0) 0)) (from (n + 1 - 0) 0)
unfolding triples
nested n f =
    rw count
    (first_of-flat_map f _ _
    ∙ ap (λ (q : ℕ → Option Triple). first_of q (from (n + 1 - 0) 0)) (fun_ext (λ x. first_of-flat_map f _ _
    ∙ ap (λ (q : ℕ → Option Triple). first_of q (from (n + 1 - 0) 0)) (fun_ext (λ y. first_of-map f (triple x y) _)))))
  where
    count : suc n ≡ n + 1 - 0
    count = omega arith

-- where the triple is found, the move is; and where it is not, neither is
module _ {A B : Type 0} (p : A → Bool) (h : A → B) where
  pub keep_through : (xs : List A) → first_of (λ x. keep (p x) (h x)) xs ≡ Option-elim (find p xs) none (λ x. some (h x))
  unfolding first_of find keep or_else Option-elim
  keep_through [] = refl
  keep_through (x ∷ xs) = go (p x) (keep_through xs)
    where
      go : (t : Bool) → first_of (λ y. keep (p y) (h y)) xs ≡ Option-elim (find p xs) none (λ y. some (h y)) →
          or_else (keep t (h x)) (first_of (λ y. keep (p y) (h y)) xs) ≡ Option-elim (or_else (keep t x) (find p xs)) none (λ y. some (h y))
      go true e = refl
      go false e = e

-- the search for the third number: nothing where the first two numbers fail, else what passes the second half
module _ (n : ℕ) (alive : ℕ → Bool) (g : Graph) (r : Rule) (l : is_not_cycle r ≡ true) (x y : ℕ) where
  pub third_none : pair_test alive g x y r ≡ false → in_third n alive g r x y ≡ none
  unfolding in_third keep ◌and◌
  third_none e = first_of_empty _ _ (λ z m. rw (halves n alive g x y z r l, e))

  module _ (e : pair_test alive g x y r ≡ true) where
    third_search : in_third n alive g r x y ≡ first_of (λ z. keep (third_test g x y z r) (triple x y z)) (from (n + 1 - 0) 0)
    unfolding in_third ◌and◌
    third_search = ap (λ (f : ℕ → Option Triple). first_of f (from (n + 1 - 0) 0)) (fun_ext (λ z. rw (halves n alive g x y z r l, e)))

    pub third_nowhere : find (λ z. third_test g x y z r) (from (n + 1 - 0) 0) ≡ none → in_third n alive g r x y ≡ none
    unfolding Option-elim
    third_nowhere f = third_search ∙ keep_through (λ z. third_test g x y z r) (triple x y) (from (n + 1 - 0) 0) ∙ rw f

    pub third_at : (z : ℕ) → find (λ z. third_test g x y z r) (from (n + 1 - 0) 0) ≡ some z → in_third n alive g r x y ≡ some (triple x y z)
    unfolding Option-elim
    third_at z f = third_search ∙ keep_through (λ z. third_test g x y z r) (triple x y) (from (n + 1 - 0) 0) ∙ rw f

module _ (n : ℕ) (alive : ℕ → Bool) (g : Graph) (i : ℕ) where
  first_find : (r : Rule) → in_first n alive g r ≡ find (λ t. allowed n alive g (move i r t)) (triples n)
  unfolding in_first in_second in_third find
  first_find r =
      sym (nested n (λ t. keep (allowed n alive g (move 1 r t)) t))
      ∙ ap (λ (p : Triple → Bool). find p (triples n)) (fun_ext (λ t. sym (allowed-any i n alive g r t)))

  pub tried_none : (k : ℕ) → rule_of k ≡ none → tried_at i n alive g k ≡ none
  unfolding tried_at Option-elim
  tried_none k e = rw e

  pub tried_nowhere : (k : ℕ) (r : Rule) → rule_of k ≡ some r → in_first n alive g r ≡ none → tried_at i n alive g k ≡ none
  unfolding tried_at move_at Option-elim
  tried_nowhere k r e f = rw (e, keep_through (λ t. allowed n alive g (move i r t)) (move i r) (triples n), sym (first_find r), f)

  pub tried_is : (k : ℕ) (r : Rule) (t : Triple) → rule_of k ≡ some r → in_first n alive g r ≡ some t → tried_at i n alive g k ≡ some (move i r t)
  unfolding tried_at move_at Option-elim
  tried_is k r t e f = rw (e, keep_through (λ u. allowed n alive g (move i r u)) (move i r) (triples n), sym (first_find r), f)

first_of_option : {A B : Type 0} (f : A → Option B) (o : Option A) → first_of f (Option-elim o [] (λ a. a ∷ [])) ≡ Option-elim o none f
unfolding first_of or_else Option-elim
first_of_option f none = refl
first_of_option f (some a) = go (f a)
  where
    go : {B : Type 0} (o : Option B) → or_else o none ≡ o
    go none = refl
    go (some b) = refl

-- the order list, byte after byte, and for each the links
module _ (n : ℕ) (s : Facts) where
  abbrev moved : ℕ → Rule → Option Move
  moved i = move_at i n (live n s) (s.graph i)

  in_links : (i : ℕ) → Memᴰ i (link_numbers s.links) → InRange s.links i
  unfolding link_numbers
  in_links i m = let r = from-mem s.links 1 i m in (omega (arith, r), omega (arith, r))

  by_links : (r : Rule) → first_of (λ i. first_of (λ t. keep (applies n s (move i r t)) (move i r t)) (triples n)) (link_numbers s.links) ≡ first_of (λ i. moved i r) (link_numbers s.links)
  unfolding move_at
  by_links r =
      first_of_alike _ _ (link_numbers s.links) (λ i m. ap (λ (p : Triple → Bool). first_of (λ t. keep (p t) (move i r t)) (triples n)) (fun_ext (applies-allowed n s i (in_links i m) r)))

  inside : (o : Option Rule) → Option-elim o none (λ r. first_of (λ i. moved i r) (link_numbers s.links)) ≡ first_of (λ i. Option-elim o none (moved i)) (link_numbers s.links)
  unfolding Option-elim
  inside none = sym (first_of_empty _ (link_numbers s.links) (λ i m. refl))
  inside (some r) = refl

  abbrev by_number : ℕ → Option Move
  by_number k = first_of (λ i. tried_at i n (live n s) (s.graph i) k) (link_numbers s.links)

  choose_by : (order : List ℕ) → choose n (order_of order) s ≡ first_of by_number order
  unfolding choose order_of tried_at
  choose_by order =
      ap (λ (f : Rule → Option Move). first_of f (order_of order)) (fun_ext by_links)
      ∙ first_of-flat_map _ _ order
      ∙ ap (λ (f : ℕ → Option Move). first_of f order) (fun_ext (λ k. first_of_option _ (rule_of k) ∙ inside (rule_of k)))

-- a rule is tried alike in rows of the link's own and in the rows of all links
pub own_tried : (link reach l r : List ℕ) (i : ℕ) → square l ≡ cube link i → square r ≡ cube reach i → (n : ℕ) (alive : ℕ → Bool) (k : ℕ) →
    tried_at i n alive (graph_of l r) k ≡ tried_at i n alive (graph_in link reach i) k
unfolding graph_in
own_tried link reach l r i e f n alive k = ap (λ (g : Graph). tried_at i n alive g k) (rows_are l r (graph_in link reach i) e f)

-- The first of two answers.
module _ {A : Type 0} (o o' : Option A) where
  pub or_else_here : {a : A} → o ≡ some a → or_else o o' ≡ some a
  unfolding or_else
  or_else_here e = rw e

  pub or_else_next : o ≡ none → or_else o o' ≡ o'
  unfolding or_else
  or_else_next e = rw e

-- The rows of each of three links are read, and the terms that are not replaced.
module _ (n alive : ℕ) (link reach : List ℕ) where
  abbrev pub Reads : ℕ → View → Type 0
  Reads i v = (v.n ≡ n) × (v.alive ≡ alive) × (square v.link ≡ cube link i) × (square v.reach ≡ cube reach i)

  read_tried : (i : ℕ) (v : View) → Reads i v → (k : ℕ) → tried_in i v k ≡ tried_at i n (bit alive) (graph_in link reach i) k
  read_tried i v r k = rw (r.0, r.1) (own_tried link reach v.link v.reach i r.2 r.3 n (bit alive) k)

  or_none : (o : Option Move) → or_else o none ≡ o
  unfolding or_else
  or_none none = refl
  or_none (some m) = refl

  -- what they find in turn is what the rule finds
  pub three_tried : (a b c : View) → Reads 1 a → Reads 2 b → Reads 3 c → (k : ℕ) →
      or_else (tried_in 1 a k) (or_else (tried_in 2 b k) (tried_in 3 c k)) ≡ tried_by n (bit alive) (graph_in link reach) k
  unfolding tried_by first_of link_numbers from
  three_tried a b c f g h k =
      rw (read_tried 1 a f k, read_tried 2 b g k, read_tried 3 c h k)
      (ap (λ (o : Option Move). or_else (tried_at 1 n (bit alive) (graph_in link reach 1) k) (or_else (tried_at 2 n (bit alive) (graph_in link reach 2) k) o))
      (sym (or_none (tried_at 3 n (bit alive) (graph_in link reach 3) k))))

-- the choice at the path that arrays hold, of a single link or of three
module _ (n : ℕ) (single : Bool) (rep link reach order : List ℕ) (alive : ℕ → Bool) (e : alive ≡ live n (path_as single rep link reach)) where
  abbrev path : Facts
  path = path_as single rep link reach

  abbrev by_links_of : (ℕ → Bool) → (ℕ → Graph) → ℕ → Option Move
  by_links_of a g k = first_of (λ i. tried_at i n a (g i) k) (link_numbers (cond single 1 3))

  in_rows : (k : ℕ) → by_links_of alive path.graph k ≡ by_links_of alive (graph_in link reach) k
  in_rows k = first_of_alike _ _ (link_numbers path.links) (λ i m. ap (λ (g : Graph). tried_at i n alive g k) (graph_at single link reach i (in_links n path i m).1))

  choose-path : choose n (order_of order) path ≡ first_of (by_links_of alive (graph_in link reach)) order
  choose-path =
      choose_by n path order
      ∙ ap (λ (a : ℕ → Bool). first_of (by_links_of a path.graph) order) (sym e)
      ∙ ap (λ (f : ℕ → Option Move). first_of f order) (fun_ext in_rows)

  single_tried : single ≡ true → (k : ℕ) → by_links_of alive (graph_in link reach) k ≡ tried_at 1 n alive (graph_in link reach 1) k
  unfolding link_numbers from
  single_tried one k = rw one (first_of-one (λ i. tried_at i n alive (graph_in link reach i) k) 1)

  pub choose_single : single ≡ true → (l r : List ℕ) → square l ≡ cube link 1 → square r ≡ cube reach 1 → choose n (order_of order) path ≡ first_of (tried_at 1 n alive (graph_of l r)) order
  choose_single one l r d f = choose-path ∙ ap (λ (g : ℕ → Option Move). first_of g order) (fun_ext (λ k. single_tried one k ∙ sym (own_tried link reach l r 1 d f n alive k)))

  pub choose-three : single ≡ false → choose n (order_of order) path ≡ first_of (tried_by n alive (graph_in link reach)) order
  unfolding tried_by
  choose-three three = choose-path ∙ rw three

module _ {B : Type 0} (f : ℕ → Option B) (xs : List ℕ) (i : ℕ) where
  pub rest_end : length xs ≤ i → first_of f (drop i xs) ≡ none
  unfolding first_of
  rest_end h = rw (drop_of_length-le xs h)

  pub rest_here : (b : B) → i < length xs → f (get_or xs i 0) ≡ some b → first_of f (drop i xs) ≡ some b
  unfolding first_of or_else
  rest_here b h e = rw (drop-cons xs i 0 h, e)

  pub rest_next : i < length xs → f (get_or xs i 0) ≡ none → first_of f (drop i xs) ≡ first_of f (drop (i + 1) xs)
  unfolding first_of or_else
  rest_next h e = rw (drop-cons xs i 0 h, e, add-one i)
