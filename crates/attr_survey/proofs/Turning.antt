-- One attribute more: the head of the list joins what is held. A flag joins its answer; type 33 is not counted, any other type is.
-- Assumes nothing.
use mathlib.Core.Path.{◌≡◌, refl, sym, ap, ◌∙◌}
use mathlib.Core.Bool.{Bool, true, false, cond, not, ◌&&◌, ◌||◌, or_assoc, or-false}
use mathlib.Core.List.{List, ◌∷◌}
use Prim.Native.Nat.{ℕ, ◌+◌, ◌<◌}
use lib.Dec.{eqb}
use lib.ListN.{length}
use borrow.Author.Tests.{eq-eqb, ne_eqb}
use Rattle.std.specs.Prelude.{Option, Some}
use Rattle.attr_walk.specs.declared.Attribute.{Attribute}
use Rattle.attr_walk.specs.Attributes.{any, found, first_of, kind_is}
use Rattle.attr_survey.specs.declared.Flags.{Flags}
use Rattle.attr_types.specs.Types.{unsupported_type, misfitting, among, naming_types, changing_types, first_repeated, also, none}
use Rattle.attr_types.specs.Classes.{class_of}
use Rattle.attr_survey.specs.declared.counts.Noted.{Noted}
use Rattle.attr_survey.specs.Noted.{noted_at, seen_at, note_at}
use Rattle.attr_survey.specs.Turns.{joined_by}
use Rattle.attr_types.proofs.Entries.{says_criterion, says_change, says_service}
use Rattle.attr_types.proofs.Rules.{lacks_class, misfit_class, supported_33, fits_33}
use Rattle.attr_survey.proofs.Notes.{length-note_at}
use Rattle.attr_types.proofs.Repeats.{same_seen, also_33}
use Rattle.attr_survey.proofs.Seen.{also_counted}
use Rattle.attr_survey.proofs.Types.{other_case, noted_turn}
use Rattle.attr_survey.proofs.Held.{Held, Flag}

-- ---- one flag, one turn

found-cond : (b : Bool) (a : Attribute) (x : Option Attribute) → found (cond b (Some a) x) ≡ (b || found x)
found-cond true a x = refl
found-cond false a x = refl

joins : (z u b : Bool) (a : Attribute) (x : Option Attribute) → z ≡ (u || found (cond b (Some a) x)) → (y : Bool) → y ≡ b → z ≡ ((u || y) || found x)
joins z u b a x e y q =
    e ∙ ap (λ (v : Bool). u || v) (found-cond b a x) ∙ sym (or_assoc u b (found x)) ∙ ap (λ (v : Bool). (u || v) || found x) (sym q)

stays : (z u b : Bool) (a : Attribute) (x : Option Attribute) → z ≡ (u || found (cond b (Some a) x)) → b ≡ false → z ≡ (u || found x)
stays z u b a x e q = e ∙ rw q

module _ (p : Attribute → Bool) (w l : List Attribute) (a : Attribute) (u : Bool) (e : Flag p w (a ∷ l) u) where
  flag_joins : (y : Bool) → y ≡ p a → Flag p w l (u || y)
  flag_joins y q = joins (any p w) u (p a) a (first_of p l) e y q

  flag_stays : p a ≡ false → Flag p w l u
  flag_stays q = stays (any p w) u (p a) a (first_of p l) e q

-- ---- a turn of type 33, which is not counted, and one of any other type

module _ (code : ℕ) (w l : List Attribute) (a : Attribute) (noted : List Noted) (f : Flags) (i : Held code w (a ∷ l) noted f) where
  module _ (e : a.kind ≡ 33) where
    other : (k : ℕ) → (k ≡ 33 → ⊥) → eqb a.kind k ≡ false
    other k p = ne_eqb a.kind k (λ q. p (sym q ∙ e))

    -- with flags g that the rules on one attribute give, the rest stays
    uncounted : (g : Flags) → g.tiled ≡ true → g.repeated ≡ f.repeated → Flag (unsupported_type code) w l g.unsupported → Flag (kind_is 6) w l g.service → Flag misfitting w l g.misfit
        → Flag (among naming_types) w l g.criterion → Flag (among changing_types) w l g.change → Held code w l noted g
    uncounted g t r u v m c d =
        record {
          entries = i.entries;
          tiled = t;
          unsupported = u;
          service = v;
          repeated =
              stays (found (first_repeated none w)) f.repeated (not (eqb a.kind 33) && seen_at noted a.kind) a (first_repeated (also a.kind (seen_at noted)) l) i.repeated (rw (eq-eqb _ _ e))
              ∙ ap (λ (x : Option Attribute). f.repeated || found x) (same_seen _ _ l (λ k p. also_33 (seen_at noted) a.kind k e p))
              ∙ ap (λ (b : Bool). b || found (first_repeated (seen_at noted) l)) (sym r);
          misfit = m;
          criterion = c;
          change = d;
          types = λ k p. other_case w l a k (noted_at noted k) (i.types k p) (other k p);
        }

    -- of another length than 2 it breaks no rule: it is supported in every request
    pub turn_33 : (a.size ≡ 2 → ⊥) → Held code w l noted f
    turn_33 n =
        uncounted f i.tiled refl (flag_stays (unsupported_type code) w l a f.unsupported i.unsupported (rw (e, supported_33 code)))
        (flag_stays (kind_is 6) w l a f.service i.service (rw e))
        (flag_stays misfitting w l a f.misfit i.misfit (rw e (fits_33 a.size n)))
        (flag_stays (among naming_types) w l a f.criterion i.criterion (rw e))
        (flag_stays (among changing_types) w l a f.change i.change (rw e))

    pub turn_empty : Held code w l noted (joined_by code (class_of a.kind) a.size false f)
    turn_empty =
        uncounted (joined_by code (class_of a.kind) a.size false f) i.tiled (or-false f.repeated)
        (flag_joins (unsupported_type code) w l a f.unsupported i.unsupported _ (lacks_class code a.kind))
        (flag_joins (kind_is 6) w l a f.service i.service _ (says_service a.kind))
        (flag_joins misfitting w l a f.misfit i.misfit _ (misfit_class a.kind a.size))
        (flag_joins (among naming_types) w l a f.criterion i.criterion _ (says_criterion a.kind))
        (flag_joins (among changing_types) w l a f.change i.change _ (says_change a.kind))

  pub turn_other : eqb a.kind 33 ≡ false → a.kind < 256
      → Held code w l (note_at noted a.kind (a.at + a.size) a.size)
      (joined_by code (class_of a.kind) a.size (seen_at noted a.kind) f)
  turn_other ne h =
      let room : a.kind < length noted = rw i.entries h in
      record {
        entries = length-note_at noted a.kind (a.at + a.size) a.size ∙ i.entries;
        tiled = i.tiled;
        unsupported = flag_joins (unsupported_type code) w l a f.unsupported i.unsupported _ (lacks_class code a.kind);
        service = flag_joins (kind_is 6) w l a f.service i.service _ (says_service a.kind);
        repeated =
            joins (found (first_repeated none w)) f.repeated (not (eqb a.kind 33) && seen_at noted a.kind) a (first_repeated (also a.kind (seen_at noted)) l) i.repeated _ (rw ne)
            ∙ ap (λ (x : Option Attribute). (f.repeated || seen_at noted a.kind) || found x) (same_seen _ _ l (λ k p. also_counted noted a.kind (a.at + a.size) a.size room k));
        misfit = flag_joins misfitting w l a f.misfit i.misfit _ (misfit_class a.kind a.size);
        criterion = flag_joins (among naming_types) w l a f.criterion i.criterion _ (says_criterion a.kind);
        change = flag_joins (among changing_types) w l a f.change i.change _ (says_change a.kind);
        types = λ k p. noted_turn w l a noted room k (i.types k p);
      }
