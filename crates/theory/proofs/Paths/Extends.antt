-- One path of facts extends another: it holds all of its facts, read through a renaming of terms. Every step of a path is such an
-- extension, so whatever is stated through it is kept.
use Prim.Native.Nat.{ℕ}
use mathlib.Core.Path.{◌≡◌, refl, sym, ap, ◌∙◌}
use mathlib.Core.Bool.{true}
use lib.Dec.{eqb, ltb, leb}
use Rattle.logic.specs.Search.{◌and◌}
use Rattle.logic.specs.Facts.{Facts, replace, add_reach, add_links}
use Rattle.theory.proofs.Basics.Search.{or_left}
use Rattle.theory.proofs.Paths.Replace.{sub, replace_in_intro}

pub record Extends (s s' : Facts) : Type 0 where
  pub renames : ℕ → ℕ
  pub rep_renamed : (t : ℕ) → s'.rep t ≡ renames (s.rep t)
  pub same_links : s'.links ≡ s.links
  pub link_kept : (i a b : ℕ) → (s.graph i).link a b ≡ true → (s'.graph i).link (renames a) (renames b) ≡ true
  pub reach_kept : (i a b : ℕ) → (s.graph i).reach a b ≡ true → (s'.graph i).reach (renames a) (renames b) ≡ true

pub extends_refl : (s : Facts) → Extends s s
extends_refl s = record { renames = λ t. t; rep_renamed = λ t. refl; same_links = refl; link_kept = λ i a b h. h; reach_kept = λ i a b h. h }

pub extends_trans : {s s' s'' : Facts} → Extends s s' → Extends s' s'' → Extends s s''
extends_trans e e' =
    record {
      renames = λ t. e'.renames (e.renames t);
      rep_renamed = λ t. e'.rep_renamed t ∙ ap e'.renames (e.rep_renamed t);
      same_links = e'.same_links ∙ e.same_links;
      link_kept = λ i a b h. e'.link_kept i _ _ (e.link_kept i a b h);
      reach_kept = λ i a b h. e'.reach_kept i _ _ (e.reach_kept i a b h);
    }

-- facts about terms that the old path held, read off the new one
module _ {s s' : Facts} (e : Extends s s') where
  pub rep_same : (t u : ℕ) → s.rep t ≡ s.rep u → s'.rep t ≡ s'.rep u
  rep_same t u h = e.rep_renamed t ∙ ap e.renames h ∙ sym (e.rep_renamed u)

  pub link-rep : (i t u : ℕ) → (s.graph i).link (s.rep t) (s.rep u) ≡ true → (s'.graph i).link (s'.rep t) (s'.rep u) ≡ true
  link-rep i t u h = rw (e.rep_renamed t, e.rep_renamed u) (e.link_kept i _ _ h)

  pub reach-rep : (i t u : ℕ) → (s.graph i).reach (s.rep t) (s.rep u) ≡ true → (s'.graph i).reach (s'.rep t) (s'.rep u) ≡ true
  reach-rep i t u h = rw (e.rep_renamed t, e.rep_renamed u) (e.reach_kept i _ _ h)

pub extends_replace : (lo hi : ℕ) (s : Facts) → (lo ≡ hi → ⊥) → Extends s (replace lo hi s)
unfolding replace sub
extends_replace lo hi s d =
    record {
      renames = sub lo hi;
      rep_renamed = λ t. refl;
      same_links = refl;
      link_kept = λ i a b h. replace_in_intro lo hi (s.graph i).link d a b h;
      reach_kept = λ i a b h. replace_in_intro lo hi (s.graph i).reach d a b h;
    }

pub extends_add_reach : (i a b : ℕ) (s : Facts) → Extends s (add_reach i a b s)
unfolding add_reach
extends_add_reach i a b s =
    record {
      renames = λ t. t;
      rep_renamed = λ t. refl;
      same_links = refl;
      link_kept = λ j x y h. h;
      reach_kept = λ j x y h. or_left (eqb j i and eqb x a and eqb y b) h;
    }

pub extends_add_links : (a b : ℕ) (s : Facts) → Extends s (add_links a b s)
unfolding add_links
extends_add_links a b s =
    record {
      renames = λ t. t;
      rep_renamed = λ t. refl;
      same_links = refl;
      link_kept = λ j x y h. or_left (ltb 0 j and leb j s.links and eqb x a and eqb y b) h;
      reach_kept = λ j x y h. h;
    }
