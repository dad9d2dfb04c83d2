-- What moved on the links of a capture, as it falls to what happened on each of them, orderly over the transport that is shown there.
use Rattle.std.proofs.Common.{◌≡◌, inl, inr, true, List, [], ◌∷◌, ◌++◌, map, refl, sym, ap, subst, ◌∙◌, append_assoc, append-nil}
use Rattle.std.specs.List.{AllByRecursion, AllZip, flat_map}
use Rattle.std.proofs.lemmas.List.Concat.{flat_map-append}
use Rattle.request_laws.specs.bt_base.specs.declared.settings.Settings.{Settings}
use Rattle.request_laws.specs.bt_base.specs.declared.settings.Transport.{Transport}
use Rattle.request_laws.specs.bt_base.specs.declared.settings.Transport.TheVariants.{L2cap, Rfcomm}
use Rattle.request_laws.specs.bt_base.specs.Objects.{Object}
use Rattle.request_laws.specs.push_terms.specs.declared.word.Side.TheVariants as sides
use Rattle.request_laws.specs.capture.specs.Pdus.{Pdu}
use Rattle.request_laws.specs.link_talk.specs.ObjectsHeard.{objects}
use Rattle.request_laws.specs.link_talk.specs.Sayings.{Saying, said_by}
use Rattle.request_laws.specs.channel_model.specs.Policies.{Policy, policy}
use Rattle.request_laws.specs.channel_model.specs.Value.{no_channels}
use Rattle.request_laws.specs.channel_laws.specs.Frames.{AreUttered}
use Rattle.request_laws.specs.channel_laws.specs.Runs.{Occurrence, run_of}
use Rattle.request_laws.specs.channel_laws.specs.Singly.{AsksForNoChannel}
use Rattle.request_laws.specs.push_model.specs.Server.{object_psm, rfcomm_psm}
use Rattle.request_laws.specs.world_model.specs.Talks.{Talk}
use Rattle.request_laws.specs.host_laws.specs.Carriers.{reader}
use Rattle.request_laws.specs.host_laws.specs.InOrder.{AsksForOneObject}
use Rattle.request_laws.specs.host_laws.specs.Keeping.{AsksForNothing, GivesNothingUp}
use Rattle.request_laws.specs.host_laws.specs.OneCarrier.{CarriesAlone}
use Rattle.request_laws.specs.host_laws.specs.OneOnLinks.{packets_psm, CarriesOneOn}
use Rattle.request_laws.specs.host_laws.specs.OverLinks.{moved_in, GoesOut, IsTalkOf}
use Rattle.request_laws.specs.host_laws.specs.Seen.{IsCalm}
use Rattle.request_laws.specs.host_laws.specs.Spoken.{IsServed}
use Rattle.request_laws.specs.pair_laws.proofs.Pairing.{all_utter}
use Rattle.request_laws.specs.host_laws.proofs.Seeking.{IsLinked, carries-one, is-served}
use Rattle.orderly_laws.specs.unit_laws.specs.scenario_laws.specs.Coming.{out_of, FallTo}
use Rattle.orderly_laws.specs.unit_laws.specs.scenario_laws.proofs.Gaining.{all-out, both_out}
use Rattle.orderly_laws.specs.unit_laws.specs.scenario_laws.specs.Parties.{party_of}
use Rattle.orderly_laws.specs.unit_laws.specs.scenario_laws.proofs.Orderly.{parts_asked}
use Rattle.carried_laws.specs.Orderly.{IsInOrder}
use Rattle.orderly_laws.specs.Answered.{AreAnswered}
use Rattle.orderly_laws.specs.Carried.{passed_in, AreInOrder}
use Rattle.orderly_laws.proofs.Falling.{OnLinks}
use Rattle.orderly_laws.proofs.Framing.{FitLink}
use Rattle.orderly_laws.proofs.Given.{FiresNot}
use Rattle.orderly_laws.proofs.Linking.{ReadLink}
use Rattle.orderly_laws.proofs.Passing.{muxed, in-order}
use Rattle.either_laws.specs.ByLinks.{transport_shown, IsOrderlyOver, IsOrderlyLink, objects_shown}
use Rattle.behind_laws.specs.following_laws.specs.OneAtATime.{IsOneAtATime}
use Rattle.behind_laws.specs.InTurn.{AsksDirectly}
use Rattle.behind_laws.proofs.Gaining.{Of, behind-of, none-at_first}
use Rattle.behind_laws.proofs.Moved.{moved_of, parts_spell}
use Rattle.behind_laws.proofs.Told.{IsPrompt}
use Rattle.either_laws.proofs.Alone.{Fits, LinkOf, TurnLink}
use Rattle.either_laws.proofs.Shown.{shown-directly}

abbrev pub moved_on : List Pdu → List Saying
moved_on link = flat_map said_by link

-- ---- how a server lives on a link

-- it hears one thing at a time, asks for nothing, and gives nothing up; its timer never fires, and it was told all
pub record IsLived (settings : Settings) (list : List Occurrence) : Type 0 where
  pub calm : IsCalm (policy settings true) no_channels list
  pub prompt : IsPrompt (policy settings true) list
  pub nothing : AllByRecursion AsksForNothing list
  pub untimed : AllByRecursion FiresNot list
  pub gives : GivesNothingUp (policy settings true) list
  pub none : AllByRecursion AsksForNoChannel list
  pub told : (run_of (policy settings true) list).value.events ≡ []

pub all_lived : (settings : Settings) (lists : List (List Occurrence)) → AllByRecursion (IsCalm (policy settings true) no_channels) lists → AllByRecursion (IsPrompt (policy settings true)) lists → AllByRecursion (AllByRecursion AsksForNothing) lists
    → AllByRecursion (AllByRecursion FiresNot) lists → AllByRecursion (GivesNothingUp (policy settings true)) lists → AllByRecursion (AllByRecursion AsksForNoChannel) lists → AllByRecursion (λ (list : List Occurrence). (run_of (policy settings true) list).value.events ≡ []) lists
    → AllByRecursion (IsLived settings) lists
all_lived settings [] calm prompt nothing untimed gives none told = tt
all_lived settings (list ∷ lists) calm prompt nothing untimed gives none told = (
  record { calm = calm.0; prompt = prompt.0; nothing = nothing.0; untimed = untimed.0; gives = gives.0; none = none.0; told = told.0 },
  all_lived settings lists calm.1 prompt.1 nothing.1 untimed.1 gives.1 none.1 told.1,
)

uttered_on : (settings : Settings) (list : List Occurrence) → IsLived settings list → AreUttered (policy settings true) list
uttered_on settings list lived = (all_utter (policy settings true) (list ∷ []) (lived.calm, tt)).0

module _ (settings : Settings) where
  abbrev P : Policy
  P = policy settings true

  -- the objects of all of them
  abbrev pub gains : (lists : List (List Occurrence)) → AllByRecursion (LinkOf settings) lists → List Object
  gains [] links = []
  gains (list ∷ lists) links = links.0.gained ++ gains lists links.1

  -- what its host said there and let wait
  record IsHeard (list : List Occurrence) (talk outs : List Saying) : Type 0 where
    said_is : (run_of (policy settings true) list).said ≡ talk ++ outs
    go_out : AllByRecursion GoesOut outs

  -- where the client asks for one channel
  record IsAlone (T : Transport) (list : List Occurrence) (part : List Talk) : Type 0 where
    only : CarriesOneOn (packets_psm T) (policy settings true) list
    served : IsServed (moved_in part)

  alone_on : (T : Transport) (list : List Occurrence) (part : List Talk) → IsLived settings list → (is : IsTalkOf (policy settings true) list part) → AsksForOneObject T (moved_in part) → IsAlone T list part
  alone_on T list part lived is sought =
      let one : IsLinked T P list (moved_in part) is.waits = record { none = lived.none; talk_is = is.talk_is; go_out = is.go_out; sought = sought } in
      record { only = carries-one T P list (moved_in part) is.waits one; served = is-served T P list (moved_in part) is.waits one }

  read_on : (list : List Occurrence) (talk outs : List Saying) → IsLived settings list → IsHeard list talk outs → CarriesOneOn object_psm (policy settings true) list → AreAnswered settings (party_of settings sides.B) talk → ReadLink settings list
  read_on list talk outs lived is only answered = record {
    talk = talk;
    outs = outs;
    said_is = is.said_is;
    go_out = is.go_out;
    uttered = uttered_on settings list lived;
    answered = answered;
    only = only;
    none = lived.none;
    told = lived.told;
  }

  fit_on : (list : List Occurrence) (talk outs : List Saying) → IsLived settings list → IsHeard list talk outs → CarriesOneOn rfcomm_psm (policy settings true) list → AreInOrder settings talk → FitLink settings list
  fit_on list talk outs lived is only order = record {
    uttered = uttered_on settings list lived;
    only = only;
    order = λ channel psm_is alone.
        subst (λ (l : List Saying). IsInOrder settings (passed_in (muxed settings) channel l)) (sym is.said_is) (in-order settings channel talk outs is.go_out psm_is (subst (CarriesAlone channel) is.said_is alone) order);
  }

  module _ (list : List Occurrence) (part : List Talk) (link : List Pdu) (outs : List Saying) (lived : IsLived settings list) (is : IsTalkOf (policy settings true) list part) (heard : IsHeard list (flat_map said_by link) outs) (fall : FallTo (part ∷ []) (link ∷ [])) where
    turn_on : IsOneAtATime (flat_map said_by link) → AllByRecursion AsksDirectly (flat_map said_by link) → AreAnswered settings (party_of settings sides.B) (flat_map said_by link) → TurnLink settings list
    turn_on single direct answered =
        let moved = moved_of IsOneAtATime none-at_first P (list ∷ []) (part ∷ []) (link ∷ []) (is, tt) fall (single, tt) in
        let of : Of settings list = record {
          calm = lived.calm;
          prompt = lived.prompt;
          nothing = lived.nothing;
          untimed = lived.untimed;
          gives = lived.gives;
          moved = moved.0;
          said = record { talk = flat_map said_by link; outs = outs; said_is = heard.said_is; go_out = heard.go_out; holds = direct };
        } in
        record {
          of = of;
          read = record {
            talk = flat_map said_by link;
            outs = outs;
            said_is = heard.said_is;
            go_out = heard.go_out;
            uttered = uttered_on settings list lived;
            answered = answered;
            behind = behind-of settings list of;
            told = lived.told;
          };
        }

    sought_on : (T : Transport) → AsksForOneObject T (flat_map said_by link) → IsAlone T list part
    sought_on T asks = alone_on T list part lived is (parts_asked T (part ∷ []) (link ∷ []) fall (asks, tt)).0

    fits_of : (T : Transport) → (T ≡ L2cap → AllByRecursion AsksDirectly (flat_map said_by link)) → IsOrderlyOver settings T (flat_map said_by link) → Fits settings T list part
    fits_of L2cap direct (inl asks, answered) = let alone = sought_on L2cap asks in inl (read_on list (flat_map said_by link) outs lived heard alone.only answered, alone.served)
    fits_of L2cap direct (inr single, answered) = inr (turn_on single (direct refl) answered)
    fits_of Rfcomm direct (asks, order) = let alone = sought_on Rfcomm asks in (fit_on list (flat_map said_by link) outs lived heard alone.only order, alone.served)

  -- ---- all links

  abbrev spelled : List (List Pdu) → List Object
  spelled caught = flat_map (λ (link : List Pdu). objects_shown settings (moved_on link)) caught

  pub record Fallen (lists : List (List Occurrence)) (caught : List (List Pdu)) : Type 0 where
    pub links : AllByRecursion (LinkOf settings) lists
    pub are : gains lists links ≡ flat_map (λ (link : List Pdu). objects_shown settings (moved_on link)) caught

  pub fallen : (lists : List (List Occurrence)) (parts : List (List Talk)) (caught : List (List Pdu)) → AllZip (IsTalkOf (policy settings true)) lists parts → FallTo parts caught → OnLinks (IsOrderlyLink settings) caught → AllByRecursion (IsLived settings) lists → Fallen lists caught
  fallen [] [] caught are fall orderly lived = record { links = tt; are = ap spelled (sym fall) }
  fallen [] (part ∷ parts) caught are fall orderly lived = absurd are
  fallen (list ∷ lists) [] caught are fall orderly lived = absurd are
  fallen (list ∷ lists) (part ∷ parts) caught are (inl (silent, fall)) orderly lived =
      let rest = fallen lists parts caught are.1 fall orderly lived.1 in
      let here = lived.0 in
      let is = are.0 in
      let nothing : moved_in part ≡ [] = ap moved_on silent in
      let heard : IsHeard list [] is.waits = record { said_is = sym here.gives ∙ (is.talk_is ∙ ap (λ (l : List Saying). l ++ is.waits) nothing); go_out = is.go_out } in
      let alone = alone_on L2cap list part here is (subst (AsksForOneObject L2cap) (sym nothing) tt) in
      record {
        links = (
          record {
            transport = L2cap;
            part = part;
            is_talk = is;
            uttered = uttered_on settings list here;
            none = here.none;
            told = here.told;
            fits = inl (read_on list [] is.waits here heard alone.only tt, alone.served);
            gained = [];
            spells = ap (objects (reader settings settings.mps L2cap)) nothing;
          },
          rest.links,
        );
        are = rest.are;
      }
  fallen (list ∷ lists) (part ∷ parts) caught are (inr (link, others, unsent, caught_is, part_is, fall)) orderly lived =
      let orders = subst (OnLinks (IsOrderlyLink settings)) caught_is orderly in
      let rest = fallen lists parts others are.1 fall orders.1 lived.1 in
      let here = lived.0 in
      let is = are.0 in
      let talk = moved_on link in
      let T = transport_shown talk in
      let party = reader settings settings.mps T in
      let left = moved_on (map out_of unsent) in
      let alone : FallTo (part ∷ []) (link ∷ []) = inr (link, [], unsent, refl, part_is, refl) in
      let heard : IsHeard list talk (left ++ is.waits) =
      record {
        said_is = sym here.gives
            ∙ (is.talk_is ∙ (ap (λ (l : List Pdu). moved_on l ++ is.waits) part_is ∙ (ap (λ (l : List Saying). l ++ is.waits) (flat_map-append said_by link (map out_of unsent)) ∙ append_assoc talk left is.waits)));
        go_out = both_out left is.waits (all-out unsent) is.go_out;
      } in
      record {
        links = (
          record {
            transport = T;
            part = part;
            is_talk = is;
            uttered = uttered_on settings list here;
            none = here.none;
            told = here.told;
            fits = fits_of list part link (left ++ is.waits) here is heard alone T (shown-directly talk) orders.0;
            gained = objects_shown settings talk;
            spells = sym (append-nil (objects party (moved_in part))) ∙ (parts_spell party (part ∷ []) (link ∷ []) alone ∙ append-nil (objects party talk));
          },
          rest.links,
        );
        are = ap (λ (l : List Object). objects_shown settings talk ++ l) rest.are ∙ ap spelled (sym caught_is);
      }
