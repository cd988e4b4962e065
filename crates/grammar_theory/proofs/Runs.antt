-- What a run of the machine says of the symbols and the kinds that it began with.
use Prim.Native.Nat.{ℕ, zero, suc}
use native.Mathlib.Omega.{arith}
use mathlib.Core.Path.{◌≡◌, refl, sym, ap, ◌∙◌, subst}
use mathlib.Core.Logic.{⊎_elim}
use mathlib.Core.Bool.{Bool, true, false, cond}
use mathlib.Core.List.{[], ◌∷◌, ◌++◌, append-nil, append_assoc}
use mathlib.Core.Option.{Option, none, some}
use lib.Dec.{eqb}
use lib.ListN.{get_elem?}
use Rattle.logic.specs.Search.{all}
use Rattle.theory.proofs.Basics.Search.{bool_cases, and_left, and_right, true-false, none-some}
use Rattle.theory.proofs.Basics.Compare.{eqb-true, eqb_intro, ltb-true}
use Rattle.grammar_theory.specs.Grammar.{token, rule, action, Symbols, Kinds, Grammar, alternatives, Step, shift, act, Steps, Derives, empty}
use Rattle.grammar_theory.specs.Machine.{Table, predicted, next, finish, read, refuse, expand_by, move, State, Ending, accepted, stuck, unfinished, after_read, after_perform, after_expand, moved, run, after}
use Rattle.grammar_theory.specs.LL1.{Facts}
use Rattle.grammar_theory.proofs.States.{at}
use Rattle.grammar_theory.specs.Claims.{plain, Any, Next, Leaves, waiting}
use Rattle.grammar_theory.proofs.Derivations.{derives_nil, derives_token}
use Rattle.grammar_theory.proofs.Passed.{option_cases, get_elem_mem, Passed}
use Rattle.grammar_theory.proofs.Prediction.{Fitting, fitting_token, fitting_action, fitting_expand, derives_taken}
use Rattle.grammar_theory.proofs.Leaves.{leaves_refl, leaves_trans, leaves_token, leaves_action, leaves_rule, after-append}

-- nothing that begins with kind k is derived from these symbols
abbrev pub Blocked : Grammar → Symbols → ℕ → Type 0
Blocked g ss k = (rest : Kinds) (steps : Steps) → next rest ≡ k → Derives g ss rest steps → ⊥

module _ (g : Grammar) where
  blocked-nil : (k : ℕ) → eqb k 0 ≡ false → Blocked g [] k
  unfolding next
  blocked-nil k e rest steps q d = true-false (eqb_intro (sym q ∙ ap next (derives_nil d).0)) e

  blocked-token : (j k : ℕ) (ss : Symbols) → eqb j k ≡ false → Blocked g (token j ∷ ss) k
  unfolding next
  blocked-token j k ss e rest steps q d = true-false (eqb_intro (sym (ap next (derives_token d).2) ∙ q)) e

  blocked-rule : {t : Table} {c : Facts} {start : ℕ} → Passed g t c start → (r k : ℕ) (ss : Symbols) → Fitting g t c (rule r ∷ ss) →
      get_elem? (alternatives g r) (predicted t r k) ≡ none → Blocked g (rule r ∷ ss) k
  blocked-rule {t} p r k ss f e rest steps q d =
      let taken = derives_taken p r ss d f in
      none-some (sym e ∙ ap (λ (x : ℕ). get_elem? (alternatives g r) (predicted t r x)) (sym q) ∙ taken.1)

-- While actions are certain at once, nothing was tried; after that, no action stood on top of the stack when a rule was expanded.
unfoldable pub Mode : Bool → Symbols → Steps → Symbols → Type 0
Mode true settled tried ss = (settled ≡ ss) × (tried ≡ [])
Mode false settled tried ss = waiting settled ≡ true

pub mode-waiting : (e : Bool) (settled ss : Symbols) (tried : Steps) → Mode e settled tried ss → waiting ss ≡ true → waiting settled ≡ true
unfolding Mode
mode-waiting true settled ss tried m w = ap waiting m.0 ∙ w
mode-waiting false settled ss tried m w = m

-- a run from symbols and kinds, which does its steps to b₀
module _ (g : Grammar) (t : Table) (c : Facts) {B : Type 0} (does : Step → B → B) (from_symbols : Symbols) (from_kinds : Kinds) (b₀ : B) where
  -- what is known at a state: the kinds read, the stack where the certain steps ended and those steps, and the steps tried behind them
  pub record Reached (s : State B) : Type 0 where
    pub read_kinds : Kinds
    pub split : read_kinds ++ s.left ≡ from_kinds
    pub is_plain : plain s.left ≡ true
    pub settled : Symbols
    pub settled_fitting : Fitting g t c settled
    pub sure : Steps
    pub sure_leaves : Leaves g Any from_symbols read_kinds sure settled
    pub sure_made : s.certain ≡ after does sure b₀
    pub tried : Steps
    pub tried_leaves : Leaves g (Next (next s.left)) settled [] tried s.stack
    pub tried_made : s.now ≡ after does tried s.certain
    pub fitting : Fitting g t c s.stack
    pub mode : Mode s.eager settled tried s.stack

  -- what an ending says
  pub record Refusal (left : Kinds) (b : B) : Type 0 where
    pub read_kinds : Kinds
    pub split : read_kinds ++ left ≡ from_kinds
    pub settled : Symbols
    pub settled_fitting : Fitting g t c settled
    pub waits : waiting settled ≡ true
    pub sure : Steps
    pub leaves : Leaves g Any from_symbols read_kinds sure settled
    pub made : b ≡ after does sure b₀
    pub blocked : Blocked g settled (next left)

  unfoldable pub Said : Ending B → Type 0
  Said (accepted b) = (steps : Steps) × Derives g from_symbols from_kinds steps × (b ≡ after does steps b₀)
  Said (stuck left b) = Refusal left b
  Said unfinished = Unit

  -- a state where nothing that comes can be derived
  said_stuck : (s : State B) → Reached s → waiting s.stack ≡ true → Blocked g s.stack (next s.left) → Refusal s.left s.certain
  said_stuck s h w b =
      record {
        read_kinds = h.read_kinds;
        split = h.split;
        settled = h.settled;
        settled_fitting = h.settled_fitting;
        waits = mode-waiting s.eager h.settled s.stack h.tried h.mode w;
        sure = h.sure;
        leaves = h.sure_leaves;
        made = h.sure_made;
        blocked = λ rest steps q d. let more = h.tried_leaves.forth rest steps q d in b rest more.0 q more.2;
      }

  plain-nil : (left : Kinds) → plain left ≡ true → next left ≡ 0 → left ≡ []
  unfolding plain all next
  plain-nil [] h e = refl
  plain-nil (k ∷ left) h e = let l = ltb-true 0 k (and_left _ _ h) in absurd (omega (arith, l, e))

  said_accepted : (left : Kinds) (now certain : B) (e : Bool) → Reached (at [] left now certain e) → next left ≡ 0 →
      (steps : Steps) × Derives g from_symbols from_kinds steps × (now ≡ after does steps b₀)
  unfolding next
  said_accepted left now certain e h z =
      let nothing : left ≡ [] = plain-nil left h.is_plain z in
      let tried' = h.tried_leaves.back [] [] (sym (ap next nothing)) empty in
      let all_steps = h.sure_leaves.back [] (h.tried ++ []) tt tried' in
      let kinds : h.read_kinds ++ [] ≡ from_kinds = ap (λ (x : Kinds). h.read_kinds ++ x) (sym nothing) ∙ h.split in (
        h.sure ++ (h.tried ++ []),
        subst (λ (x : Kinds). Derives g from_symbols x (h.sure ++ (h.tried ++ []))) kinds all_steps,
        h.tried_made ∙ ap (after does h.tried) h.sure_made ∙ sym (after-append does h.sure h.tried b₀)
            ∙ ap (λ (x : Steps). after does (h.sure ++ x) b₀) (sym (append-nil h.tried)),
      )

  -- one more step behind the steps that were tried
  made_more : (sure tried : Steps) (x : Step) (now certain : B) → certain ≡ after does sure b₀ → now ≡ after does tried certain →
      does x now ≡ after does (sure ++ (tried ++ (x ∷ []))) b₀
  unfolding after
  made_more sure tried x now certain e e' =
      ap (does x) (e' ∙ ap (after does tried) e) ∙ sym (after-append does tried (x ∷ []) (after does sure b₀)) ∙ sym (after-append does sure (tried ++ (x ∷ [])) b₀)

  reached_read : (k : ℕ) (ss : Symbols) (left : Kinds) (now certain : B) (e : Bool) → Reached (at (token k ∷ ss) (k ∷ left) now certain e) →
      Reached (at ss left (does (shift k) now) (does (shift k) now) true)
  unfolding next plain all Mode after
  reached_read k ss left now certain e h =
      record {
        read_kinds = h.read_kinds ++ (k ∷ []);
        split = append_assoc h.read_kinds (k ∷ []) left ∙ h.split;
        is_plain = and_right _ _ h.is_plain;
        settled = ss;
        settled_fitting = (fitting_token h.fitting).2;
        sure = h.sure ++ (h.tried ++ (shift k ∷ []));
        sure_leaves =
            leaves_trans {P = Any} {Q = Any} (λ rest q. tt) h.sure_leaves
            (leaves_trans {P = Next k} {Q = Any} (λ rest q. refl) h.tried_leaves (leaves_token k ss));
        sure_made = made_more h.sure h.tried (shift k) now certain h.sure_made h.tried_made;
        tried = [];
        tried_leaves = leaves_refl (Next (next left)) ss;
        tried_made = refl;
        fitting = (fitting_token h.fitting).2;
        mode = (refl, refl);
      }

  reached_perform : (a : ℕ) (ss : Symbols) (left : Kinds) (now certain : B) (e : Bool) → Reached (at (action a ∷ ss) left now certain e) →
      Reached (at ss left (does (act a) now) (cond e (does (act a) now) certain) e)
  unfolding Mode after
  reached_perform a ss left now certain true h =
      record {
        read_kinds = h.read_kinds ++ [];
        split = ap (λ (x : Kinds). x ++ left) (append-nil h.read_kinds) ∙ h.split;
        is_plain = h.is_plain;
        settled = ss;
        settled_fitting = fitting_action h.fitting;
        sure = h.sure ++ ([] ++ (act a ∷ []));
        sure_leaves =
            leaves_trans {P = Any} {Q = Any} (λ rest q. tt)
            (subst (λ (x : Symbols). Leaves g Any from_symbols h.read_kinds h.sure x) h.mode.0 h.sure_leaves)
            (leaves_action Any a ss);
        sure_made =
            made_more h.sure [] (act a) now certain h.sure_made (h.tried_made ∙ ap (λ (x : Steps). after does x certain) h.mode.1);
        tried = [];
        tried_leaves = leaves_refl (Next (next left)) ss;
        tried_made = refl;
        fitting = fitting_action h.fitting;
        mode = (refl, refl);
      }
  reached_perform a ss left now certain false h =
      record {
        read_kinds = h.read_kinds;
        split = h.split;
        is_plain = h.is_plain;
        settled = h.settled;
        settled_fitting = h.settled_fitting;
        sure = h.sure;
        sure_leaves = h.sure_leaves;
        sure_made = h.sure_made;
        tried = h.tried ++ (act a ∷ []);
        tried_leaves =
            leaves_trans {P = Next (next left)} {Q = Next (next left)} (λ rest q. q) h.tried_leaves (leaves_action (Next (next left)) a ss);
        tried_made = ap (does (act a)) h.tried_made ∙ sym (after-append does h.tried (act a ∷ []) certain);
        fitting = fitting_action h.fitting;
        mode = h.mode;
      }

  module _ {start : ℕ} (p : Passed g t c start) where
    reached_expand : (r : ℕ) (alternative ss : Symbols) (left : Kinds) (now certain : B) (e : Bool) →
        get_elem? (alternatives g r) (predicted t r (next left)) ≡ some alternative → Reached (at (rule r ∷ ss) left now certain e) →
        Reached (at (alternative ++ ss) left now certain false)
    unfolding Mode waiting
    reached_expand r alternative ss left now certain e taken h =
        record {
          read_kinds = h.read_kinds;
          split = h.split;
          is_plain = h.is_plain;
          settled = h.settled;
          settled_fitting = h.settled_fitting;
          sure = h.sure;
          sure_leaves = h.sure_leaves;
          sure_made = h.sure_made;
          tried = h.tried ++ [];
          tried_leaves =
              leaves_trans {P = Next (next left)} {Q = Next (next left)} (λ rest q. q) h.tried_leaves
              (leaves_rule p (next left) r alternative ss taken h.fitting);
          tried_made = h.tried_made ∙ ap (λ (x : Steps). after does x certain) (sym (append-nil h.tried));
          fitting = fitting_expand p r alternative ss (get_elem_mem (alternatives g r) _ taken) h.fitting;
          mode = mode-waiting e h.settled (rule r ∷ ss) h.tried h.mode refl;
        }

    -- a token that is read is the first of those left
    said_read : (n j : ℕ) (ss : Symbols) (left : Kinds) (now certain : B) (e : Bool) → j ≡ next left → Reached (at (token j ∷ ss) left now certain e) →
        ((left' : Kinds) (b : B) → Reached (at ss left' b b true) → Said (run does g t n (at ss left' b b true))) →
        Said (run does g t n (after_read does (at (token j ∷ ss) left now certain e)))
    unfolding next after_read
    said_read n j ss [] now certain e q h go = let l = (fitting_token h.fitting).0 in absurd (omega (arith, l, q))
    said_read n j ss (k ∷ left) now certain e q h go =
        go left (does (shift k) now) (reached_read k ss left now certain e (subst (λ (x : ℕ). Reached (at (token x ∷ ss) (k ∷ left) now certain e)) q h))

    pub said_run : (n : ℕ) (ss : Symbols) (left : Kinds) (now certain : B) (e : Bool) → Reached (at ss left now certain e) →
        Said (run does g t n (at ss left now certain e))
    unfolding run move moved after_perform after_expand expand_by Said waiting
    said_run zero ss left now certain e h = tt
    said_run (suc n) [] left now certain e h =
        let s : State B = at [] left now certain e in
        let Goal : Bool → Type 0 = λ b. Said (moved does (run does g t n) s (cond b finish refuse)) in
        ⊎_elim
        (λ q. subst Goal (sym q) (said_accepted left now certain e h (eqb-true (next left) 0 q)))
        (λ q. subst Goal (sym q) (said_stuck s h refl (blocked-nil g (next left) q)))
        (bool_cases (eqb (next left) 0))
    said_run (suc n) (token j ∷ ss) left now certain e h =
        let s : State B = at (token j ∷ ss) left now certain e in
        let Goal : Bool → Type 0 = λ b. Said (moved does (run does g t n) s (cond b read refuse)) in
        ⊎_elim
        (λ q. subst Goal (sym q) (said_read n j ss left now certain e (eqb-true j (next left) q) h (λ left' b. said_run n ss left' b b true)))
        (λ q. subst Goal (sym q) (said_stuck s h refl (blocked-token g j (next left) ss q)))
        (bool_cases (eqb j (next left)))
    said_run (suc n) (rule r ∷ ss) left now certain e h =
        let s : State B = at (rule r ∷ ss) left now certain e in
        let Goal : Option Symbols → Type 0 = λ o. Said (moved does (run does g t n) s (expand_by o)) in
        ⊎_elim
        (λ q. subst Goal (sym q) (said_stuck s h refl (blocked-rule g p r (next left) ss h.fitting q)))
        (λ q. subst Goal (sym q.1) (said_run n (q.0 ++ ss) left now certain false (reached_expand r q.0 ss left now certain e q.1 h)))
        (option_cases (get_elem? (alternatives g r) (predicted t r (next left))))
    said_run (suc n) (action a ∷ ss) left now certain e h =
        let b : B = does (act a) now in
        said_run n ss left b (cond e b certain) e (reached_perform a ss left now certain e h)
