-- What a path says depends only on the nodes that its havocs give.
use Prim.Native.Nat.{ℕ, ◌<◌}
use mathlib.Core.Path.{◌≡◌, refl, ap, ◌∙◌, fun_ext}
use mathlib.Core.Bool.{Bool}
use mathlib.Core.List.{List}
use lib.ListN.{get_or}
use Rattle.routine_logic.specs.State.{State, null_node, changed}
use Rattle.path_theory.specs.Points.{Name, nil, initial, given, read, Stores, none, store, Marks, unmarked, mark, Point, node_of, link_of, flag_of, state_at}
use Rattle.literal_theory.specs.Labels.{Plan}
use Rattle.literal_theory.proofs.OnPath.{OnPath, OwnStores, OwnMarks, OwnPoint}

module _ (P : Plan) (s : State) (nodes nodes' : List ℕ) (same_given : (k : ℕ) → k < P.havocs → get_or nodes k null_node ≡ get_or nodes' k null_node) where
  mutual
    unfolding node_of link_of OnPath OwnStores

    name_alike : (a : Name) → OnPath P a → node_of s nodes a ≡ node_of s nodes' a
    name_alike nil h = refl
    name_alike (initial x) h = refl
    name_alike (given k) h = same_given k h
    name_alike (read i w a) h = ap (λ (f : ℕ → ℕ). f (node_of s nodes a)) (link_alike i w h.1) ∙ ap (link_of s nodes' i w) (name_alike a h.2)

    link_alike : (i : ℕ) (w : Stores) → OwnStores P w → link_of s nodes i w ≡ link_of s nodes' i w
    link_alike i none h = refl
    link_alike i (store w a b) h =
        ap (λ (f : ℕ → ℕ). changed f (node_of s nodes a) (node_of s nodes b)) (link_alike i w h.0)
        ∙ ap (λ (v : ℕ). changed (link_of s nodes' i w) v (node_of s nodes b)) (name_alike a h.1)
        ∙ ap (changed (link_of s nodes' i w) (node_of s nodes' a)) (name_alike b h.2)

  flag_alike : (j : ℕ) (m : Marks) → OwnMarks P m → flag_of s nodes j m ≡ flag_of s nodes' j m
  unfolding flag_of OwnMarks
  flag_alike j unmarked h = refl
  flag_alike j (mark m a b) h =
      ap (λ (f : ℕ → Bool). changed f (node_of s nodes a) b) (flag_alike j m h.0) ∙ ap (λ (v : ℕ). changed (flag_of s nodes' j m) v b) (name_alike a h.1)

  pub state_alike : (p : Point) → OwnPoint P p → state_at s nodes p ≡ state_at s nodes' p
  unfolding state_at
  state_alike p own =
      ap (λ (f : ℕ → ℕ → ℕ). record { size = s.size; link = f; field = λ j. flag_of s nodes j (p.marks j); variable = λ x. node_of s nodes (p.env x) })
      (fun_ext (λ i. link_alike i (p.stores i) (own.stores i)))
      ∙ ap (λ (f : ℕ → ℕ → Bool). record { size = s.size; link = λ i. link_of s nodes' i (p.stores i); field = f; variable = λ x. node_of s nodes (p.env x) })
      (fun_ext (λ j. flag_alike j (p.marks j) (own.marks j)))
      ∙ ap (λ (f : ℕ → ℕ). record { size = s.size; link = λ i. link_of s nodes' i (p.stores i); field = λ j. flag_of s nodes' j (p.marks j); variable = f })
      (fun_ext (λ x. name_alike (p.env x) (own.env x)))
