-- A heap in which cuts lead to themselves, with nodes for labels, gives a state; where what is read is as the readings say, labels stand in it for their
-- own nodes.
use Prim.Native.Nat.{ℕ, zero, suc, ◌+◌, ◌≤◌, ◌<◌}
use native.Mathlib.Omega.{arith}
use mathlib.Core.Path.{◌≡◌, refl, sym, ap, ◌∙◌, subst, fun_ext}
use mathlib.Core.Bool.{Bool, true, false, cond}
use mathlib.Core.List.Memᴰ
use mathlib.Core.List.{List, ◌++◌, map}
use lib.Dec.{eqb}
use lib.ListN.{get_or}
use Rattle.logic.specs.Search.{from}
use Rattle.logic.specs.Heap.{Node}
use Rattle.theory.proofs.Basics.Search.{true-false, any_alike, from-mem, map-mem}
use Rattle.theory.proofs.Basics.Compare.{eqb_intro, ltb_intro, cond-true}
use Rattle.routine_logic.specs.State.{State, null_node, IsState}
use Rattle.cut_theory.specs.Versions.{version, is_cut, cut}
use Rattle.cut_theory.specs.Trees.{read_tree, Holds}
use Rattle.cut_theory.proofs.Trees.{read_tree_lem}
use Rattle.path_theory.specs.Points.{Name, nil, initial, given, read, Stores, none, store, node_of, link_of}
use Rattle.path_theory.specs.Assignments.{count, assigned_at, value_at, Begins, whole}
use Rattle.path_theory.proofs.Assignments.{version_alike, begins_count, begins_assigned, begins_value, link-version}
use Rattle.literal_theory.specs.Labels.{Label, named, chosen, after, names_in, stores_in, labels_in, label_node, Plan, cut_label, cut_names}
use Rattle.literal_theory.specs.Forms.{literals, meets_form}
use Rattle.literal_theory.specs.Heaps.{cut_node, old_node, start_state, given_nodes}
use Rattle.literal_theory.specs.Translation.{reading}
use Rattle.literal_theory.proofs.Nodes.{AllNodes}
use Rattle.literal_theory.proofs.Literals.{literals_plain}
use Rattle.literal_theory.proofs.Restoring.{Restorable, restored_old, restored_cut, restored_all}
use Rattle.literal_theory.proofs.Names.{Each, each_left, each_right}
use Rattle.literal_theory.proofs.OnPath.{OnPath, OwnStores, OwnLabel}

-- a link that is cut at the same nodes is the same
pub cut_alike : (f c c' : ℕ → ℕ) (n : ℕ) → ((k : ℕ) → k < n → c k ≡ c' k) → cut f c n ≡ cut f c' n
unfolding cut is_cut
cut_alike f c c' n h =
    fun_ext (λ v. ap (λ (b : Bool). cond b v (f v))
    (any_alike (λ i. eqb (c i) v) (λ i. eqb (c' i) v) (from n 0) (λ i m. let l = from-mem n 0 i m in ap (λ (u : ℕ). eqb u v) (h i (omega (arith, l.1))))))

-- what is given, by number
pub get_d_from : (f : ℕ → ℕ) (n i k : ℕ) (d : ℕ) → k < n → get_or (map f (from n i)) k d ≡ f (i + k)
unfolding from
get_d_from f zero i k d l = absurd (omega (arith, l))
get_d_from f (suc n) i zero d l = ap f (let e : i ≡ i + 0 = omega arith in e)
get_d_from f (suc n) i (suc k) d l = get_d_from f n (suc i) k d (omega (arith, l)) ∙ ap f (let e : suc i + k ≡ i + suc k = omega arith in e)

module _ (P : Plan) (g : State) (node : Label → ℕ) where
  abbrev pub start : State
  start = start_state P node g

  abbrev pub gave : List ℕ
  gave = given_nodes P node

  abbrev pub picked : ℕ → List Bool → ℕ
  picked k d = node (chosen k d)

  -- a heap for the plan
  pub record Drawn : Type 0 where
    pub is_state : IsState g
    pub nodes : (l : Label) → Node g (node l)
    pub null : node (named nil) ≡ null_node
    pub restorable : (i : ℕ) → Restorable (g.link i) (cut_node P node i) (old_node P node i) (cut_names P i).number
    pub nulls : (i k : ℕ) → k < (cut_names P i).number → cut_node P node i k ≡ null_node → old_node P node i k ≡ null_node

  module _ (drawn : Drawn) where
    link_all : (Q : ℕ → Type 0) (i v : ℕ) → ((k : ℕ) → k < (cut_names P i).number → cut_node P node i k ≡ v → Q (old_node P node i k)) → Q (g.link i v) → Q (start.link i v)
    unfolding start_state
    link_all Q i v x y = restored_all (g.link i) (cut_node P node i) (old_node P node i) (cut_names P i).number (drawn.restorable i) Q v x y

    pub start-is_state : IsState start
    unfolding start_state
    start-is_state =
        record {
          is_heap =
              record {
                nonempty = drawn.is_state.is_heap.nonempty;
                link_node = λ i v h. link_all (Node g) i v (λ k l e. drawn.nodes _) (drawn.is_state.is_heap.link_node i v h);
                variable_node = λ x. drawn.nodes (named (initial x));
              };
          null_link = λ i. link_all (λ v. v ≡ null_node) i null_node (λ k l e. drawn.nulls i k l e) (drawn.is_state.null_link i);
          null_flag_lem = drawn.is_state.null_flag_lem;
        }

    pub gave-nodes : AllNodes start gave
    unfolding start_state given_nodes
    gave-nodes v m =
        let r = map-mem (λ k. node (named (given k))) v (from P.havocs 0) m in
        subst (Node g) (sym r.2) (drawn.nodes (named (given r.0)))

    -- cut again, the link is the heap's
    pub cut_again : (i : ℕ) → cut (start.link i) (cut_node P node i) (cut_names P i).number ≡ g.link i
    unfolding start_state
    cut_again i = restored_cut (g.link i) (cut_node P node i) (old_node P node i) (cut_names P i).number (drawn.restorable i)

    old_right : (i k : ℕ) → k < (cut_names P i).number → node ((cut_names P i).old k) ≡ start.link i (node ((cut_names P i).cut k))
    unfolding start_state
    old_right i k l = sym (restored_old (g.link i) (cut_node P node i) (old_node P node i) (cut_names P i).number (drawn.restorable i) k l)

    -- names of some assignments stand for their own nodes
    abbrev RightStores : Stores → Type 0
    RightStores w =
        (k : ℕ) → k < count w → (node (named (assigned_at w k)) ≡ node_of start gave (assigned_at w k)) × (node (named (value_at w k)) ≡ node_of start gave (value_at w k))

    -- the link after them, by the cuts of the plan
    link-right : (i : ℕ) (w : Stores) → Begins w (P.stores i) → RightStores w →
        link_of start gave i w ≡ version (start.link i) (cut_node P node i) (λ k. node ((cut_names P i).value k)) (count w)
    unfolding cut_names cut_label
    link-right i w h right =
        let few = begins_count h in
        link-version start gave i (whole {w = w})
        ∙ version_alike (start.link i) _ _ _ _ (count w)
        (λ k l. sym (right k l).0 ∙ ap (λ (a : Name). node (named a)) (begins_assigned start gave i h k l)
        ∙ sym (ap node (cond-true _ _ (ltb_intro (let m : k < count (P.stores i) = omega (arith, l, few) in m)))))
        (λ k l. sym (right k l).1 ∙ ap (λ (a : Name). node (named a)) (begins_value start gave i h k l))

    below : (i : ℕ) (w : Stores) → Begins w (P.stores i) → count w ≤ (cut_names P i).number
    unfolding cut_names
    below i w h = let l = begins_count h in omega (arith, l)

    -- what a reading says
    abbrev pub Met : Label → Type 0
    Met l = meets_form g start gave node (reading P l) ≡ true

    read_right : (i : ℕ) (w : Stores) (a r : Label) → Begins w (P.stores i) → RightStores w →
        meets_form g start gave node (literals true i 0 (read_tree (cut_names P i) (count w) a r)) ≡ true → link_of start gave i w (node a) ≡ node r
    read_right i w a r h right met =
        let holds = (literals_plain g start gave node drawn.is_state.is_heap drawn.nodes i 0 _).0 met in
        let t = read_tree_lem node (start.link i) (g.field 0) (cut_names P i) (old_right i) (count w) (below i w h) a r in
        ap (λ (f : ℕ → ℕ). f (node a)) (link-right i w h right)
        ∙ t.0 (subst (λ (f : ℕ → ℕ). Holds node f (g.field 0) (read_tree (cut_names P i) (count w) a r)) (sym (cut_again i)) holds)

    -- the last assignment, or one before it
    abbrev Right : Name → Type 0
    Right a = node (named a) ≡ node_of start gave a

    last_right : (w : Stores) (a b : Name) (k : ℕ) → Right a → Right b → ((k ≡ count w → ⊥) → Right (assigned_at w k) × Right (value_at w k)) →
        Right (assigned_at (store w a b) k) × Right (value_at (store w a b) k)
    unfolding assigned_at value_at
    last_right w a b k h h' before = go (eqb k (count w)) refl
      where
        go : (c : Bool) → eqb k (count w) ≡ c → Right (cond c a (assigned_at w k)) × Right (cond c b (value_at w k))
        go true e = (h, h')
        go false e = before (λ d. true-false (eqb_intro d) e)

    mutual
      unfolding node_of names_in stores_in OnPath OwnStores reading start_state given_nodes assigned_at value_at count

      name-right : (a : Name) → OnPath P a → Each Met (names_in a) → node (named a) ≡ node_of start gave a
      name-right nil own met = drawn.null
      name-right (initial x) own met = refl
      name-right (given k) own met = sym (get_d_from (λ n. node (named (given n))) P.havocs 0 k null_node own ∙ ap (λ (n : ℕ). node (named (given n))) (let e : 0 + k ≡ k = omega arith in e))
      name-right (read i w a) own met =
          let rest : Each Met (stores_in w ++ names_in a) = λ l m. met l (Memᴰ.tail m) in
          sym (read_right i w (named a) (named (read i w a)) own.0 (stores-right w own.1 (each_left Met (stores_in w) (names_in a) rest)) (met (named (read i w a)) (Memᴰ.head refl)))
          ∙ ap (link_of start gave i w) (name-right a own.2 (each_right Met (stores_in w) (names_in a) rest))

      stores-right : (w : Stores) → OwnStores P w → Each Met (stores_in w) → RightStores w
      stores-right none own met = λ k l. absurd (omega (arith, l))
      stores-right (store w a b) own met = λ k l. last_right w a b k
          (name-right a own.1 (each_left Met (names_in a) (names_in b) (each_right Met (stores_in w) (names_in a ++ names_in b) met)))
          (name-right b own.2 (each_right Met (names_in a) (names_in b) (each_right Met (stores_in w) (names_in a ++ names_in b) met)))
          (λ d. stores-right w own.0 (each_left Met (stores_in w) (names_in a ++ names_in b) met) k (omega (arith, l, d)))

    -- labels stand for their own nodes
    pub label_right : (l : Label) → OwnLabel P l → Each Met (labels_in l) → node l ≡ label_node start gave picked l
    unfolding labels_in label_node OwnLabel reading
    label_right (named a) own met = name-right a own met
    label_right (chosen k d) own met = refl
    label_right (after i w l) own met =
        let rest : Each Met (stores_in w ++ labels_in l) = λ x m. met x (Memᴰ.tail m) in
        sym (read_right i w l (after i w l) own.0 (stores-right w own.1 (each_left Met (stores_in w) (labels_in l) rest)) (met (after i w l) (Memᴰ.head refl)))
        ∙ ap (link_of start gave i w) (label_right l own.2 (each_right Met (stores_in w) (labels_in l) rest))
