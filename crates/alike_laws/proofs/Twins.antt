-- Runs from two beginnings that a machine cannot tell apart.
use Rattle.std.proofs.Common.{◌≡◌, inl, inr, refl, sym, ap, ◌∙◌}
use Rattle.run_laws.specs.world_model.specs.Machines.{Upper}
use Rattle.alike_laws.specs.Twins.{AreTwins, IsOther, RunsAreOfTwins, RestIsOfTwins}
use Rattle.alike_laws.proofs.Alike.{AreAlike, runs_on, rest_on}

module _ {S G : Type 0} (U : Upper S G) (first other : S) (twins : AreTwins U first other) where
  abbrev R : S → S → Type 0
  R s t = IsOther first other s t

  -- what is told of both is the same
  tells : {X : Type 0} (tell : S → X) → tell other ≡ tell first → (s t : S) → R s t → tell t ≡ tell s
  tells tell same s t (inl is) = ap tell is
  tells tell same s t (inr (is_s, is_t)) = ap tell is_t ∙ same ∙ sym (ap tell is_s)

  pub alike : AreAlike R U U
  alike = record {
    hear = λ answers news s t r. (answers, inl (tells (λ (x : S). U.hear answers news x) (twins.hear answers news) s t r));
    says = λ s t r pdu after is. (after, inl refl, tells U.next twins.next s t r ∙ is);
    silent = λ s t r is. tells U.next twins.next s t r ∙ is;
    wants_link = λ s t r. tells U.wants_link twins.wants_link s t r;
    leaves_link = λ s t r. tells U.leaves_link twins.leaves_link s t r;
    is_idle = λ s t r. tells U.is_idle twins.is_idle s t r;
    outcome = λ s t r. tells U.outcome twins.outcome s t r;
    armed = λ s t r. tells U.armed twins.armed s t r;
    may_cancel = λ s t r. tells U.may_cancel twins.may_cancel s t r;
    has_check = λ s t own r. tells (λ (x : S). U.has_check x own) (twins.has_check own) s t r;
  }

pub runs_are_of_twins : {S T G H : Type 0} (U : Upper S G) (V : Upper T H) → RunsAreOfTwins U V
runs_are_of_twins U V s s' t t' one two happenings old new is_s is_t runs =
    runs_on (IsOther s s') (IsOther t t') U U V V (alike U s s' one) (alike V t t' two) happenings s' t' old new (inr (is_s, refl)) (inr (is_t, refl)) runs

pub rest_is_of_twins : {S T G H : Type 0} (U : Upper S G) (V : Upper T H) → RestIsOfTwins U V
rest_is_of_twins U V s s' t t' one two w w' both rest = rest_on (IsOther s s') (IsOther t t') U U V V (alike U s s' one) (alike V t t' two) w w' both rest
