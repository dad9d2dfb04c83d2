-- What the controller of host a owes it of the end of its link, and why.
use Rattle.std.proofs.Common.{◌≡◌, ◌⊎◌, ℕ, ◌==◌, ◌&&◌, Bool, true, false, List, [], ◌∷◌, ◌++◌, Option, Some, None, inl, inr, refl, sym, ap, subst, ◌∙◌, if◌then◌else◌}
use Rattle.std.specs.Prelude.{◌+◌}
use Rattle.std.specs.List.{AllByRecursion}
use Rattle.std.proofs.lemmas.List.Concat.{flat_map-append}
use Rattle.cause_laws.specs.push_terms.specs.declared.outcome.Outcome.{Outcome}
use Rattle.cause_laws.specs.push_terms.specs.declared.word.Side.{Side}
use Rattle.cause_laws.specs.push_terms.specs.declared.word.Side.TheVariants.{A, B}
use Rattle.cause_laws.specs.acl_fragments.specs.Pieces.{Piece}
use Rattle.cause_laws.specs.capture.specs.Entries.{Entry}
use Rattle.cause_laws.specs.radio_model.specs.Controllers.{Answer, Returned, Stated, Called, LinkMade, LinkGone, GivenBack, Controller, after_telling}
use Rattle.cause_laws.specs.radio_model.specs.Radio.{Radio, Paging, Requested, is_reached, after_reaching, may_page, is_requested, joined, parted_by, knows_link, owes, scanning, with_piece, after_taking}
use Rattle.cause_laws.specs.world_model.specs.Stations.{Order, Reset, ReadBuffers, ReadAddress, Scan, Page, Accept, End, Data}
use Rattle.cause_laws.specs.world_model.specs.Worlds.{piece_on, after_order}
use Rattle.cause_laws.specs.turn_laws.proofs.Departing.{Taken, takes_packet}
use Rattle.cause_laws.specs.turn_laws.proofs.Leading.{Tiding, Came, Went, tiding_in, tidings, plain_tidings}
use Rattle.cause_laws.proofs.Clients.{HasCome}
use Rattle.drop_laws.specs.Dropped.{is_drop, HasDrop}

-- Host a is to be told that its link ended: since `drop` broke it in this part; since host b ended it; or since it ended it itself, and its push has an outcome.
abbrev pub GoneSo : List Entry → Option Outcome → ℕ → Type 0
GoneSo part cause reason = ((reason ≡ 0x08) × HasDrop part) ⊎ ((reason ≡ 0x13) ⊎ ((reason ≡ 0x16) × HasCome cause))

abbrev pub TidingSo : List Entry → Option Outcome → Tiding → Type 0
TidingSo part cause (Came handle) = Unit {0}
TidingSo part cause (Went handle reason) = GoneSo part cause reason

abbrev pub Owes : List Entry → Option Outcome → List Answer → Type 0
Owes part cause owed = AllByRecursion (TidingSo part cause) (tidings owed)

-- ---- lists

all_more : (P : Tiding → Type 0) (xs ys : List Tiding) → AllByRecursion P xs → AllByRecursion P ys → AllByRecursion P (xs ++ ys)
all_more P [] ys one other = other
all_more P (x ∷ xs) ys one other = (one.0, all_more P xs ys one.1 other)

pub owes_more : (part : List Entry) (cause : Option Outcome) (owed more : List Answer) → Owes part cause owed → Owes part cause more → Owes part cause (owed ++ more)
owes_more part cause owed more one other = subst (AllByRecursion (TidingSo part cause)) (sym (flat_map-append tiding_in owed more)) (all_more (TidingSo part cause) (tidings owed) (tidings more) one other)

-- nothing is said of the end of a link
pub owes_same : (part : List Entry) (cause : Option Outcome) (owed owed' : List Answer) → tidings owed' ≡ tidings owed → Owes part cause owed → Owes part cause owed'
owes_same part cause owed owed' same so = subst (AllByRecursion (TidingSo part cause)) (sym same) so

owes_plain : (part : List Entry) (cause : Option Outcome) (owed : List Answer) (answer : Answer) → tiding_in answer ≡ [] → Owes part cause owed → Owes part cause (owed ++ answer ∷ [])
owes_plain part cause owed answer plain so = owes_same part cause owed (owed ++ answer ∷ []) (plain_tidings owed answer plain) so

-- ---- it goes on

gone_on : (part part' : List Entry) (cause cause' : Option Outcome) (reason : ℕ) → (HasDrop part → HasDrop part') → (HasCome cause → HasCome cause') → GoneSo part cause reason → GoneSo part' cause' reason
gone_on part part' cause cause' reason drops comes (inl dropped) = inl (dropped.0, drops dropped.1)
gone_on part part' cause cause' reason drops comes (inr (inl peer)) = inr (inl peer)
gone_on part part' cause cause' reason drops comes (inr (inr own)) = inr (inr (own.0, comes own.1))

all_on : (part part' : List Entry) (cause cause' : Option Outcome) (rest : List Tiding) → (HasDrop part → HasDrop part') → (HasCome cause → HasCome cause') → AllByRecursion (TidingSo part cause) rest → AllByRecursion (TidingSo part' cause') rest
all_on part part' cause cause' [] drops comes all = tt
all_on part part' cause cause' (Came handle ∷ rest) drops comes all = (tt, all_on part part' cause cause' rest drops comes all.1)
all_on part part' cause cause' (Went handle reason ∷ rest) drops comes all = (gone_on part part' cause cause' reason drops comes all.0, all_on part part' cause cause' rest drops comes all.1)

pub owes_on : (part part' : List Entry) (cause cause' : Option Outcome) (owed : List Answer) → (HasDrop part → HasDrop part') → (HasCome cause → HasCome cause') → Owes part cause owed → Owes part' cause' owed
owes_on part part' cause cause' owed drops comes all = all_on part part' cause cause' (tidings owed) drops comes all

pub drop_more : (part : List Entry) (entry : Entry) → HasDrop part → HasDrop (part ++ entry ∷ [])
drop_more [] entry has = absurd has
drop_more (one ∷ part) entry (inl here) = inl here
drop_more (one ∷ part) entry (inr later) = inr (drop_more part entry later)

pub drop_now : (part : List Entry) (entry : Entry) → is_drop entry ≡ true → HasDrop (part ++ entry ∷ [])
drop_now [] entry is = inl is
drop_now (one ∷ part) entry is = inr (drop_now part entry is)

-- ---- what orders make of it

module _ (part : List Entry) (cause : Option Outcome) where
  abbrev So : Radio → Type 0
  So radio = Owes part cause radio.a.owed

  either : (test : Bool) (one two : Radio) → So one → So two → So (if test then one else two)
  either true one two x y = x
  either false one two x y = y

  -- a command is stated, or returns something
  stated : (side : Side) (answer : Answer) (radio : Radio) → tiding_in answer ≡ [] → So radio → So (owes side (answer ∷ []) radio)
  stated A answer radio plain so = owes_plain part cause radio.a.owed answer plain so
  stated B answer radio plain so = so

  reached : (radio : Radio) → So radio → So (after_reaching radio)
  reached radio so = either (is_reached radio) (record radio { b = record radio.b { owed = radio.b.owed ++ Called ∷ [] }; phase = Requested }) radio so so

  scanned : (side : Side) (radio : Radio) → So radio → So (scanning side 0x03 radio)
  scanned A radio so = so
  scanned B radio so = so

  paged : (side : Side) (radio : Radio) → So radio → So (after_order side Page radio)
  paged A radio so =
      let now = owes A (Stated 0x0405 ∷ []) radio in
      let asked : Radio = record now { phase = Paging } in
      either (may_page now) (after_reaching asked) now (reached asked (stated A (Stated 0x0405) radio refl so)) (stated A (Stated 0x0405) radio refl so)
  paged B radio so = so

  accepted : (side : Side) (radio : Radio) → So radio → So (after_order side Accept radio)
  accepted A radio so = stated A (Stated 0x0409) radio refl so
  accepted B radio so = let now = owes B (Stated 0x0409 ∷ []) radio in either (is_requested now.phase) (joined now) now (owes_more part cause radio.a.owed (LinkMade (radio.number + 1) ∷ []) so (tt, tt)) so

  -- a host ends its link
  ended : (side : Side) (handle : ℕ) (radio : Radio) (test : Bool) → (test ≡ true → (side ≡ A) → HasCome cause) → So radio → So (if test then parted_by side (owes side (Stated 0x0406 ∷ []) radio) else owes side (Stated 0x0406 ∷ []) radio)
  ended A handle radio true comes so =
      owes_more part cause (radio.a.owed ++ Stated 0x0406 ∷ []) (LinkGone radio.number 0x16 ∷ []) (stated A (Stated 0x0406) radio refl so) (inr (inr (refl, comes refl refl)), tt)
  ended A handle radio false comes so = stated A (Stated 0x0406) radio refl so
  ended B handle radio true comes so = owes_more part cause radio.a.owed (LinkGone radio.number 0x13 ∷ []) so (inr (inl refl), tt)
  ended B handle radio false comes so = so

  pieced : (flies : Bool) (one : Controller) (handle : ℕ) (piece : Piece) → (with_piece flies (piece_on one handle piece) one).owed ≡ one.owed
  pieced flies one handle piece = by (one.up && (handle == one.told))
    where
      by : (test : Bool) → (with_piece flies (if test then Some piece else None) one).owed ≡ one.owed
      by true = refl
      by false = refl

  took_same : (handle : ℕ) (one : Controller) → tidings (after_taking handle one).owed ≡ tidings one.owed
  took_same handle one = by (takes_packet handle one)
    where
      by : Taken one (after_taking handle one) → tidings (after_taking handle one).owed ≡ tidings one.owed
      by took = let goes : tidings (after_taking handle one).owed ≡ tidings took.owed = ap (λ (c : Controller). tidings c.owed) took.is in goes ∙ took.same

  sent : (side : Side) (handle : ℕ) (piece : Piece) (radio : Radio) → So radio → So (after_order side (Data handle piece) radio)
  sent A handle piece radio so =
      owes_same part cause radio.a.owed (after_taking handle (with_piece (knows_link A radio) (piece_on radio.a handle piece) radio.a)).owed (took_same handle (with_piece (knows_link A radio) (piece_on radio.a handle piece) radio.a) ∙ ap tidings (pieced (knows_link A radio) radio.a handle piece)) so
  sent B handle piece radio so = so

  -- Where host a ends its link, its push has an outcome.
  pub ordered : (side : Side) (order : Order) (radio : Radio) → ((handle : ℕ) → order ≡ End handle → side ≡ A → (knows_link A radio && (handle == radio.number)) ≡ true → HasCome cause) → So radio → So (after_order side order radio)
  ordered side Reset radio comes so = stated side (Returned 0x0C03 (0 ∷ [])) radio refl so
  ordered side ReadBuffers radio comes so = stated side _ radio refl so
  ordered side ReadAddress radio comes so = stated side _ radio refl so
  ordered side Scan radio comes so = let now = scanning side 0x03 radio in reached (owes side (Returned 0x0C1A (0 ∷ []) ∷ []) now) (stated side (Returned 0x0C1A (0 ∷ [])) now refl (scanned side radio so))
  ordered side Page radio comes so = paged side radio so
  ordered side Accept radio comes so = accepted side radio so
  ordered A (End handle) radio comes so = ended A handle radio (knows_link A radio && (handle == radio.number)) (λ test is. comes handle refl refl test) so
  ordered B (End handle) radio comes so =
      let now = owes B (Stated 0x0406 ∷ []) radio in ended B handle radio (knows_link B now && (handle == now.number)) (λ test is. absurd (let e = is in cc)) so
  ordered side (Data handle piece) radio comes so = sent side handle piece radio so

-- ---- what comes to it

pub telling_owes : (part : List Entry) (cause : Option Outcome) (answer : Answer) (one : Controller) → Owes part cause one.owed → Owes part cause (after_telling answer one).owed
telling_owes part cause (Returned number params) one so = so
telling_owes part cause (Stated number) one so = so
telling_owes part cause Called one so = so
telling_owes part cause (LinkMade handle) one so = so
telling_owes part cause (LinkGone handle reason) one so = so
telling_owes part cause (GivenBack handle count) one so = so

all_rest : (P : Tiding → Type 0) (xs ys : List Tiding) → AllByRecursion P (xs ++ ys) → AllByRecursion P ys
all_rest P [] ys all = all
all_rest P (x ∷ xs) ys all = all_rest P xs ys all.1

pub owes_rest : (part : List Entry) (cause : Option Outcome) (answer : Answer) (rest : List Answer) → Owes part cause (answer ∷ rest) → Owes part cause rest
owes_rest part cause answer rest so = all_rest (TidingSo part cause) (tiding_in answer) (tidings rest) so
