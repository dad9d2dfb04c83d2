-- What a client may have asked for yet at a moment on its link: nothing, a channel for service discovery, or such alone that it does not
-- wait for any more.
use Rattle.std.proofs.Common.{◌≡◌, ℕ, List, [], ◌∷◌, ◌++◌, Bool, true, false, cond, eqb, ◌||◌, not, Option, Some, None, refl, sym, ap, subst, ◌∙◌, inl, inr, append-nil, append_assoc}
use Rattle.std.specs.Prelude.{option_map}
use Rattle.std.specs.List.{list_any}
use Rattle.std.proofs.lemmas.Bool.{eqb-true}
use Rattle.shelf_model.specs.bt_base.specs.declared.settings.Transport.{Transport}
use Rattle.shelf_model.specs.capture.specs.Histories.{EachAfter}
use Rattle.shelf_model.specs.capture.specs.declared.flow.Flow.TheVariants.{Out}
use Rattle.push_laws.specs.link_talk.specs.declared.call.Call.{Call}
use Rattle.channel_laws.specs.channel_model.specs.Value.{Request, Requested, Held}
use Rattle.channel_laws.specs.channel_model.specs.Policies.{Policy}
use Rattle.channel_laws.specs.channel_model.specs.Changing.{held_at, setup_of}
use Rattle.channel_laws.specs.channel_model.specs.Asking.{new_request, asks}
use Rattle.channel_laws.specs.channel_model.specs.Following.{with_channel}
use Rattle.channel_laws.specs.channel_model.specs.declared.errand.Errand.TheVariants.{Connection}
use Rattle.channel_laws.specs.channel_model.specs.Calls.{can_connect, carrier_mtu, open_carrier, setup_on, peer_mtu}
use Rattle.channel_laws.specs.channel_model.proofs.Going.{new_held}
use Rattle.channel_laws.specs.Runs.{Occurrence, Comes, Connects, AsksFeatures, Disconnects, Sends, Gives, Fires, Tells, Run, run_of}
use Rattle.channel_laws.specs.Singly.{calls_that_went, IsAgain, AreOneByOne, NoneIsDue, AsksSo, AsksForNoChannel}
use Rattle.channel_laws.proofs.Inviting.{held_others}
use Rattle.channel_laws.proofs.OneByOne.{calls-are_one_by_one}
use Rattle.host_laws.specs.InOrder.{is_beyond, seeks_object, may_carry}
use Rattle.host_laws.proofs.Refusing.{OffersNone, value_of, value-more, stays-free, stays-none}

-- a client may name that PSM: service discovery's, or one of packets
abbrev pub may_name : Transport → ℕ → Bool
may_name transport psm = eqb psm 0x0001 || may_carry transport psm

-- service discovery alone was asked for
abbrev pub for_search : ℕ → List Call → Bool
for_search psm before = eqb psm 0x0001

abbrev pub AreSearches : Policy → List Occurrence → Type 0
AreSearches policy front = EachAfter (λ past one. AsksSo for_search one (run_of policy past)) [] front

-- no channel is held
pub record NoneIsHeld (policy : Policy) (front : List Occurrence) : Type 0 where
  pub searches : AreSearches policy front
  pub free : (own : ℕ) → held_at own (value_of policy front) ≡ None

-- none is held but one
pub record OneIsHeld (policy : Policy) (front : List Occurrence) : Type 0 where
  pub searches : AreSearches policy front
  pub at : ℕ
  pub free : (own : ℕ) → eqb at own ≡ false → held_at own (value_of policy front) ≡ None

-- no channel is only asked for
pub record NoneWaits (policy : Policy) (front : List Occurrence) : Type 0 where
  pub searches : AreSearches policy front
  pub none : NoneIsDue (value_of policy front)

-- ---- at first, and on

pub first-free : (policy : Policy) → NoneIsHeld policy []
first-free policy = record { searches = tt; free = λ own. refl }

pub first-one : (policy : Policy) → OneIsHeld policy []
first-one policy = record { searches = tt; at = 0; free = λ own apart. refl }

pub first-none : (policy : Policy) → NoneWaits policy []
first-none policy = record { searches = tt; none = λ own held request found is. cc }

pub each-more : {X : Type 0} (P : List X → X → Type 0) (past xs : List X) (x : X) → EachAfter P past xs → P (past ++ xs) x → EachAfter P past (xs ++ x ∷ [])
each-more P past [] x each now = (subst (λ l. P l x) (append-nil past) now, tt)
each-more P past (y ∷ xs) x each now = (each.0, each-more P (past ++ y ∷ []) xs x each.1 (subst (λ l. P l x) (sym (append_assoc past (y ∷ []) xs)) now))

pub asks-none : (Fits : ℕ → List Call → Bool) (one : Occurrence) (run : Run) → AsksForNoChannel one → AsksSo Fits one run
asks-none Fits (Comes pdu) run quiet = tt
asks-none Fits (Connects psm) run quiet = absurd quiet
asks-none Fits AsksFeatures run quiet = tt
asks-none Fits (Disconnects own) run quiet = tt
asks-none Fits (Sends own sdu) run quiet = tt
asks-none Fits (Gives pdu) run quiet = tt
asks-none Fits Fires run quiet = tt
asks-none Fits Tells run quiet = tt

module _ (policy : Policy) (none : OffersNone policy) (front : List Occurrence) (more : Occurrence) (quiet : AsksForNoChannel more) where
  searched : AreSearches policy front → AreSearches policy (front ++ more ∷ [])
  searched searches = each-more (λ past one. AsksSo for_search one (run_of policy past)) [] front more searches (asks-none for_search more (run_of policy front) quiet)

  pub on-free : NoneIsHeld policy front → NoneIsHeld policy (front ++ more ∷ [])
  on-free so = record { searches = searched so.searches; free = λ own. stays-free policy none front more quiet own (so.free own) }

  pub on-one : OneIsHeld policy front → OneIsHeld policy (front ++ more ∷ [])
  on-one so = record { searches = searched so.searches; at = so.at; free = λ own apart. stays-free policy none front more quiet own (so.free own apart) }

  pub on-none : NoneWaits policy front → NoneWaits policy (front ++ more ∷ [])
  on-none so = record { searches = searched so.searches; none = stays-none policy none front more quiet so.none }

-- ---- the channel for service discovery

pub free-none : (policy : Policy) (front : List Occurrence) → NoneIsHeld policy front → NoneIsDue (value_of policy front)
free-none policy front so own held request found is = let never : None ≡ Some held = sym (so.free own) ∙ found in absurd cc

pub asks-search : (policy : Policy) (front : List Occurrence) → NoneIsHeld policy front → OneIsHeld policy (front ++ Connects 0x0001 ∷ [])
asks-search policy front so =
    let v = value_of policy front in
    record {
      searches = each-more (λ past one. AsksSo for_search one (run_of policy past)) [] front (Connects 0x0001) so.searches (free-none policy front so, refl);
      at = v.next;
      free = λ own apart. ap (held_at own) (value-more policy front (Connects 0x0001)) ∙ by (can_connect v) own apart;
    }
  where
    by : (can : Bool) (own : ℕ) → eqb (value_of policy front).next own ≡ false → held_at own (cond can (asks (Connection (value_of policy front).next) (with_channel 0x0001 (Requested (new_request (value_of policy front))) (value_of policy front))) (value_of policy front)) ≡ None
    by true own apart = held_others (value_of policy front).held (new_held 0x0001 (value_of policy front).next (Requested (new_request (value_of policy front)))) own apart ∙ so.free own
    by false own apart = so.free own

-- it is there once it may be sent on
pub opens-search : (policy : Policy) (front : List Occurrence) (own mtu : ℕ) → peer_mtu own (value_of policy front) ≡ Some mtu → OneIsHeld policy front → NoneWaits policy front
opens-search policy front own mtu open' so = record { searches = so.searches; none = none }
  where
    shut : (other : Held) (request : Request) → held_at own (value_of policy front) ≡ Some other → other.stage ≡ Requested request → ⊥
    shut other request found is =
        let never : None ≡ Some mtu = ap (λ setup. option_map carrier_mtu (open_carrier setup)) (sym (ap setup_on found ∙ ap setup_of is)) ∙ open' in absurd cc

    here : (n : ℕ) (other : Held) → held_at n (value_of policy front) ≡ Some other → (b : Bool) → eqb so.at n ≡ b → so.at ≡ n
    here n other found true is = eqb-true so.at n is
    here n other found false is = let never : None ≡ Some other = sym (so.free n is) ∙ found in absurd cc

    there : (found : Option Held) → held_at own (value_of policy front) ≡ found → so.at ≡ own
    there None none = let never : None ≡ Some mtu = ap (λ f. option_map carrier_mtu (open_carrier (setup_on f))) (sym none) ∙ open' in absurd cc
    there (Some held) found = here own held found (eqb so.at own) refl

    none : NoneIsDue (value_of policy front)
    none n held request found is =
        shut held request (ap (λ m. held_at m (value_of policy front)) (sym (there (held_at own (value_of policy front)) refl) ∙ here n held found (eqb so.at n) refl) ∙ found) is

-- ---- what went

abbrev SeeksNone : List Call → Type 0
SeeksNone calls = list_any seeks_object calls ≡ false

again_none : (one : Call) (before : List Call) → IsAgain one before → SeeksNone before → seeks_object one ≡ false
again_none one [] never none = absurd never
again_none one (last ∷ before) same none = ap seeks_object same ∙ left (seeks_object last) (list_any seeks_object before) none
  where
    left : (a b : Bool) → (a || b) ≡ false → a ≡ false
    left true b is = cc
    left false b is = refl

none_sought : (calls : List Call) → AreOneByOne for_search calls → SeeksNone calls
none_sought [] all = refl
none_sought (one ∷ before) (inl again, later) = let none = none_sought before later in ap (λ b. b || list_any seeks_object before) (again_none one before again none) ∙ none
none_sought (one ∷ before) (inr fresh, later) =
    ap (λ b. b || list_any seeks_object before) (ap (λ w. is_beyond w) fresh.wanted_is ∙ ap not fresh.fits) ∙ none_sought before later

-- no request for another channel went out
pub searches-seek_none : (policy : Policy) (front : List Occurrence) → AreSearches policy front → list_any seeks_object (calls_that_went Out (run_of policy front).said) ≡ false
searches-seek_none policy front searches = none_sought (calls_that_went Out (run_of policy front).said) (calls-are_one_by_one policy for_search front searches)
