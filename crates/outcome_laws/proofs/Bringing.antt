-- One thing since a push of a client began brought its outcome about, whatever comes to the client and whatever it does.
use Rattle.std.proofs.Common.{◌≡◌, ℕ, Bool, true, false, ◌==◌, ◌&&◌, ◌||◌, not, List, [], ◌∷◌, ◌++◌, fold, Option, Some, None, refl, sym, ap, subst, ◌∙◌, append_assoc, inl, inr}
use Rattle.std.specs.Prelude.{IfSome}
use Rattle.std.proofs.lemmas.Bool.{eqb-true}
use Rattle.cause_laws.specs.bt_base.specs.declared.settings.Settings.{Settings}
use Rattle.unit_laws.specs.scenario_laws.specs.h4_framing.specs.Packets.{Packet}
use Rattle.unit_laws.specs.scenario_laws.specs.host_link.specs.declared.role.Role.TheVariants.{Client as Paging}
use Rattle.unit_laws.specs.scenario_laws.specs.host_link.specs.Hearing.{PlainNews, Nothing, LinkUp, LinkFailed, LinkDown, Pdu, news_of}
use Rattle.cause_laws.specs.push_terms.specs.declared.outcome.Outcome.{Outcome}
use Rattle.cause_laws.specs.push_terms.specs.declared.outcome.Outcome.TheVariants.{Done, LinkLost, RetryLimit, Refused, NoService, ShelfFault, Cancelled as PushCancelled, PeerClosed, PeerFault, ScriptEnded}
use Rattle.cause_laws.specs.world_model.specs.Machines.{News, Up, Down, Linked, Failed, Heard, TimerFired, Cancelled, Opening}
use Rattle.cause_laws.specs.host_model.specs.Circumstances.{Circumstance}
use Rattle.cause_laws.specs.host_model.specs.Clients.{ClientProfile, client_profile}
use Rattle.cause_laws.specs.host_model.specs.Hosts.{Host, hear}
use Rattle.cause_laws.specs.host_model.specs.Machines.{upper}
use Rattle.cause_laws.specs.host_model.specs.Profiles.{Profile}
use Rattle.cause_laws.specs.host_laws.specs.Acts.{Hears, Says}
use Rattle.cause_laws.specs.host_laws.proofs.Links.{act_told}
use Rattle.cause_laws.specs.FirstCauses.{IsLoss, may_blame}
use Rattle.cause_laws.proofs.Clients.{is_heard, is_shelf, Within, Came}
use Rattle.cause_laws.proofs.Driving.{is_timed, is_gone, next_shelf, up_shelf, timer_timed, down_gone, opens_shelf}
use Rattle.cause_laws.proofs.Profiles.{heard_came, lame_next, lame_hear, well_before}
use Rattle.unit_laws.specs.Units.{Lined, Occasion, Comes, Learns, Says as Says_occasion, Puts, Commands, Waits, starting, hears_line, IsOwnNews, Happens, Runs, Whatever}
use Rattle.outcome_laws.specs.BroughtAbout.{is_cancel, is_firing, is_piece, end_reason, failed_status, is_number, since_more, finds_fault, BringsAbout, IsBroughtAbout, HasCause, OutcomesAreBroughtAbout}
use Rattle.outcome_laws.proofs.Telling.{is_failed, is_cancelled, failed_came, cancelled_came}
use Rattle.outcome_laws.proofs.Units.{TellsSo, unit_tells}

abbrev One : Type 0
One = Occasion Circumstance

-- ---- what the part of a push has

abbrev Stood : List One → Option Outcome → Type 0
Stood part cause = IfSome cause (λ outcome. HasCause outcome part)

about_more : (outcome : Outcome) (part : List One) (one : One) → IsBroughtAbout outcome part → IsBroughtAbout outcome (part ++ one ∷ [])
about_more outcome part one about = record {
  before = about.before;
  one = about.one;
  after = about.after ++ one ∷ [];
  part_is = ap (λ (l : List One). l ++ one ∷ []) about.part_is ∙ append_assoc about.before (about.one ∷ about.after) (one ∷ []);
  brings = about.brings;
}

cause_more : (outcome : Outcome) (part : List One) (one : One) → HasCause outcome part → HasCause outcome (part ++ one ∷ [])
cause_more ShelfFault part one has = tt
cause_more ScriptEnded part one has = absurd has
cause_more outcome part one has = about_more outcome part one has

about_last : (outcome : Outcome) (part : List One) (one : One) → BringsAbout outcome one → IsBroughtAbout outcome (part ++ one ∷ [])
about_last outcome part one brings = record { before = part; one = one; after = []; part_is = refl; brings = brings }

-- where one of these outcomes comes with the last of it
abbrev Brings : (Outcome → Bool) → One → Type 0
Brings q one = (outcome : Outcome) (part : List One) → q outcome ≡ true → HasCause outcome (part ++ one ∷ [])

stood_with : (q : Outcome → Bool) (part : List One) (one : One) (old new : Option Outcome) → Brings q one → Came q old new → Stood part old → Stood (part ++ one ∷ []) new
stood_with q part one None None brings came stood = tt
stood_with q part one None (Some outcome) brings came stood = brings outcome part came
stood_with q part one (Some outcome) new brings came stood = subst (Stood (part ++ one ∷ [])) (sym came) (cause_more outcome part one stood)

-- ---- what brings which

shelf_brings : (one : One) → Brings is_shelf one
shelf_brings one ShelfFault part is = tt
shelf_brings one outcome part is = cc

piece_fault : (layer reason : ℕ) (one : One) → is_piece one ≡ true → may_blame layer ≡ true → finds_fault layer reason one ≡ true
piece_fault layer reason one piece may =
    ap (λ (b : Bool). ((layer == 1) && is_number reason (failed_status one)) || ((may_blame layer && b) || ((layer == 2) && is_firing one))) piece
    ∙ (ap (λ (b : Bool). ((layer == 1) && is_number reason (failed_status one)) || ((b && true) || ((layer == 2) && is_firing one))) may ∙ by ((layer == 1) && is_number reason (failed_status one)))
  where
    by : (a : Bool) → (a || true) ≡ true
    by true = refl
    by false = refl

piece_brings : (one : One) → is_piece one ≡ true → Brings is_heard one
piece_brings one piece Done part is = about_last Done part one piece
piece_brings one piece (Refused code) part is = about_last (Refused code) part one piece
piece_brings one piece NoService part is = about_last NoService part one piece
piece_brings one piece RetryLimit part is = about_last RetryLimit part one (ap (λ (b : Bool). b || is_firing one) piece)
piece_brings one piece ShelfFault part is = tt
piece_brings one piece PeerClosed part is = about_last PeerClosed part one (inl piece)
piece_brings one piece (PeerFault layer reason) part is = about_last (PeerFault layer reason) part one (piece_fault layer reason one piece is)
piece_brings one piece outcome part is = cc

firing_brings : (one : One) → is_firing one ≡ true → Brings is_timed one
firing_brings one fires RetryLimit part is = about_last RetryLimit part one (by (is_piece one) (is_firing one) fires)
  where
    by : (a b : Bool) → b ≡ true → (a || b) ≡ true
    by true b on = refl
    by false b on = on
firing_brings one fires ShelfFault part is = tt
firing_brings one fires (PeerFault layer reason) part is = about_last (PeerFault layer reason) part one (by ((layer == 1) && is_number reason (failed_status one)) (may_blame layer && is_piece one) (layer == 2) (is_firing one) is fires)
  where
    by : (a b c d : Bool) → c ≡ true → d ≡ true → (a || (b || (c && d))) ≡ true
    by true b c d x y = refl
    by false true c d x y = refl
    by false false true d x y = y
    by false false false d x y = absurd (let never : false ≡ true = x in cc)
firing_brings one fires outcome part is = cc

gone_brings : (reason : ℕ) (one : One) → end_reason one ≡ Some reason → Brings (is_gone (reason == 0x13)) one
gone_brings reason one told LinkLost part is = about_last LinkLost part one (subst IsLoss (sym told) (by (reason == 0x13) is))
  where
    by : (b : Bool) → not b ≡ true → b ≡ false
    by false off = refl
    by true off = cc
gone_brings reason one told ShelfFault part is = tt
gone_brings reason one told PeerClosed part is = about_last PeerClosed part one (inr (told ∙ ap (λ (n : ℕ). Some n) (eqb-true reason 0x13 is)))
gone_brings reason one told outcome part is = cc

failed_brings : (status : ℕ) (one : One) → failed_status one ≡ Some status → Brings (is_failed status) one
failed_brings status one told ShelfFault part is = tt
failed_brings status one told (PeerFault layer reason) part is =
    about_last (PeerFault layer reason) part one
    (ap (λ (b : Bool). b || ((may_blame layer && is_piece one) || ((layer == 2) && is_firing one))) (ap (λ (s : Option ℕ). (layer == 1) && is_number reason s) told ∙ is))
failed_brings status one told outcome part is = cc

cancel_brings : (one : One) → is_cancel one ≡ true → Brings is_cancelled one
cancel_brings one cancels ShelfFault part is = tt
cancel_brings one cancels PushCancelled part is = about_last PushCancelled part one cancels
cancel_brings one cancels outcome part is = cc

-- ---- one thing more

module _ (settings : Settings) where
  abbrev C : Profile ClientProfile
  C = client_profile settings

  abbrev cause_at : Lined (Host ClientProfile) → Option Outcome
  cause_at now = now.upper.profile.client.cause

  abbrev failed_at : Lined (Host ClientProfile) → Bool
  failed_at now = now.upper.profile.client.failed

  -- nothing is left to be told of its channels
  record IsSo (part : List One) (now : Lined (Host ClientProfile)) : Type 0 where
    told : now.upper.channels.events ≡ []
    stood : Stood part now.upper.profile.client.cause

  hears_one : (q : Outcome → Bool) (part : List One) (one : One) (gifts : List Circumstance) (news : News) (old new : Lined (Host ClientProfile)) → Brings q one → new.upper ≡ hear (client_profile settings) gifts news old.upper → since_more part one ≡ part ++ one ∷ []
      → Came q old.upper.profile.client.cause (hear (client_profile settings) gifts news old.upper).profile.client.cause → IsSo part old → IsSo (since_more part one) new
  hears_one q part one gifts news old new brings is more came so = record {
    told = act_told C (Hears gifts news) old.upper new.upper is so.told;
    stood = subst (λ (p : List One). Stood p (cause_at new)) (sym more)
        (subst (λ (h : Host ClientProfile). Stood (part ++ one ∷ []) h.profile.client.cause) (sym is) (stood_with q part one (cause_at old) (hear C gifts news old.upper).profile.client.cause brings came so.stood));
  }

  still_one : (part : List One) (one : One) (old new : Lined (Host ClientProfile)) → new.upper ≡ old.upper → since_more part one ≡ part ++ one ∷ [] → IsSo part old → IsSo (since_more part one) new
  still_one part one old new is more so =
      subst (λ (p : List One). IsSo p new) (sym more) (record {
        told = ap (λ (h : Host ClientProfile). h.channels.events) is ∙ so.told;
        stood = subst (λ (h : Host ClientProfile). Stood (part ++ one ∷ []) h.profile.client.cause) (sym is) (stood_with is_shelf part one (cause_at old) (cause_at old) (shelf_brings one) (same (cause_at old)) so.stood);
      })
    where
      same : (cause : Option Outcome) → Came is_shelf cause cause
      same None = tt
      same (Some outcome) = refl

  comes_one : (part : List One) (gifts : List Circumstance) (unit : Packet) (news : PlainNews) (old new : Lined (Host ClientProfile)) → TellsSo news unit → new.upper ≡ hears_line (upper (client_profile settings)) gifts news old.upper → IsSo part old → IsSo (part ++ Comes gifts unit ∷ []) new
  comes_one part gifts unit Nothing old new tells is so = still_one part (Comes gifts unit) old new is refl so
  comes_one part gifts unit LinkUp old new tells is so = hears_one is_shelf part (Comes gifts unit) gifts (Linked Up) old new (shelf_brings (Comes gifts unit)) is refl (up_shelf settings gifts old.upper so.told) so
  comes_one part gifts unit (LinkFailed status) old new tells is so =
      hears_one (is_failed status) part (Comes gifts unit) gifts (Failed status) old new (failed_brings status (Comes gifts unit) tells) is refl (failed_came settings gifts status old.upper so.told) so
  comes_one part gifts unit (LinkDown reason) old new tells is so =
      hears_one (is_gone (reason == 0x13)) part (Comes gifts unit) gifts (Linked (Down reason)) old new (gone_brings reason (Comes gifts unit) tells) is refl (down_gone settings gifts reason old.upper so.told) so
  comes_one part gifts unit (Pdu channel octets) old new tells is so =
      hears_one is_heard part (Comes gifts unit) gifts (Heard octets) old new (piece_brings (Comes gifts unit) tells) is refl (heard_came settings gifts octets old.upper) so

  begins_one : (gifts : List Circumstance) (name : List ℕ) (old new : Lined (Host ClientProfile)) → new.upper ≡ hear (client_profile settings) gifts (Opening name) old.upper → failed_at new ≡ false → old.upper.channels.events ≡ [] → IsSo [] new
  begins_one gifts name old new is well told = record {
    told = act_told C (Hears gifts (Opening name)) old.upper new.upper is told;
    stood = subst (λ (h : Host ClientProfile). Stood [] h.profile.client.cause) (sym is) (by (hear C gifts (Opening name) old.upper).profile.client.cause (opens_shelf settings gifts name old.upper told (ap (λ (h : Host ClientProfile). h.profile.client.failed) (sym is) ∙ well)));
  }
    where
      by : (cause : Option Outcome) → Within is_shelf cause → Stood [] cause
      by None within = tt
      by (Some ShelfFault) within = tt
      by (Some outcome) within = cc

  learns_one : (part : List One) (gifts : List Circumstance) (news : News) (old new : Lined (Host ClientProfile)) → IsOwnNews news → new.upper ≡ hear (client_profile settings) gifts news old.upper → failed_at new ≡ false → IsSo part old → IsSo (since_more part (Learns gifts news)) new
  learns_one part gifts (Linked event) old new own is well so = absurd own
  learns_one part gifts (Failed status) old new own is well so = absurd own
  learns_one part gifts (Heard pdu) old new own is well so = absurd own
  learns_one part gifts TimerFired old new own is well so = hears_one is_timed part (Learns gifts TimerFired) gifts TimerFired old new (firing_brings (Learns gifts TimerFired) refl) is refl (timer_timed settings gifts old.upper so.told) so
  learns_one part gifts Cancelled old new own is well so = hears_one is_cancelled part (Learns gifts Cancelled) gifts Cancelled old new (cancel_brings (Learns gifts Cancelled) refl) is refl (cancelled_came settings gifts old.upper so.told) so
  learns_one part gifts (Opening name) old new own is well so = begins_one gifts name old new is well so.told

  one_more : (part : List One) (one : One) (old new : Lined (Host ClientProfile)) → Happens (upper (client_profile settings)) one old new → failed_at new ≡ false → IsSo part old → IsSo (since_more part one) new
  one_more part (Comes gifts unit) old new (fault, is) well so = comes_one part gifts unit (news_of unit old.line) old new (unit_tells unit old.line) (ap (λ (s : Lined (Host ClientProfile)). s.upper) is) so
  one_more part (Learns gifts news) old new (own, is) well so = learns_one part gifts news old new own (ap (λ (s : Lined (Host ClientProfile)). s.upper) is) well so
  one_more part (Says_occasion pdu) old new says well so = record {
    told = act_told C (Says pdu) old.upper new.upper says.next_is so.told;
    stood = stood_with is_shelf part (Says_occasion pdu) (cause_at old) (cause_at new) (shelf_brings (Says_occasion pdu)) (next_shelf settings old.upper pdu new.upper so.told says.next_is) so.stood;
  }
  one_more part (Puts handle piece) old new puts well so = still_one part (Puts handle piece) old new puts.upper_is refl so
  one_more part (Commands command) old new puts well so = still_one part (Commands command) old new puts.upper_is refl so
  one_more part Waits old new waits well so = still_one part Waits old new waits.upper_is refl so

  -- ---- want of memory stays

  line_lame : (gifts : List Circumstance) (news : PlainNews) (host : Host ClientProfile) → host.profile.client.failed ≡ true → (hears_line (upper (client_profile settings)) gifts news host).profile.client.failed ≡ true
  line_lame gifts Nothing host lame = lame
  line_lame gifts LinkUp host lame = lame_hear settings gifts (Linked Up) host lame
  line_lame gifts (LinkFailed status) host lame = lame_hear settings gifts (Failed status) host lame
  line_lame gifts (LinkDown reason) host lame = lame_hear settings gifts (Linked (Down reason)) host lame
  line_lame gifts (Pdu channel octets) host lame = lame_hear settings gifts (Heard octets) host lame

  pub one_lame : (one : One) (old new : Lined (Host ClientProfile)) → Happens (upper (client_profile settings)) one old new → failed_at old ≡ true → failed_at new ≡ true
  one_lame (Comes gifts unit) old new (fault, is) lame = ap (λ (s : Lined (Host ClientProfile)). failed_at s) is ∙ line_lame gifts (news_of unit old.line) old.upper lame
  one_lame (Learns gifts news) old new (own, is) lame = ap (λ (s : Lined (Host ClientProfile)). failed_at s) is ∙ lame_hear settings gifts news old.upper lame
  one_lame (Says_occasion pdu) old new says lame = lame_next settings old.upper pdu new.upper says.next_is lame
  one_lame (Puts handle piece) old new puts lame = ap (λ (h : Host ClientProfile). h.profile.client.failed) puts.upper_is ∙ lame
  one_lame (Commands command) old new puts lame = ap (λ (h : Host ClientProfile). h.profile.client.failed) puts.upper_is ∙ lame
  one_lame Waits old new waits lame = ap (λ (h : Host ClientProfile). h.profile.client.failed) waits.upper_is ∙ lame

  pub run_lame : (list : List One) (old new : Lined (Host ClientProfile)) → Runs (upper (client_profile settings)) Whatever list old new → failed_at old ≡ true → failed_at new ≡ true
  run_lame [] old new is lame = ap (λ (s : Lined (Host ClientProfile)). failed_at s) is ∙ lame
  run_lame (one ∷ list) old new (mid, so, happens, rest) lame = run_lame list mid new rest (one_lame one old mid happens lame)

  -- ---- all of it

  run_so : (part list : List One) (old new : Lined (Host ClientProfile)) → Runs (upper (client_profile settings)) Whatever list old new → failed_at new ≡ false → IsSo part old → IsSo (fold since_more part list) new
  run_so part [] old new is well so = subst (IsSo part) (sym is) so
  run_so part (one ∷ list) old new (mid, aside, happens, rest) well so = run_so (since_more part one) list mid new rest well (one_more part one old mid happens (well_before settings (failed_at mid) (failed_at new) (run_lame list mid new rest) well) so)

pub outcomes_are_brought_about : OutcomesAreBroughtAbout
outcomes_are_brought_about settings occasions now runs well = (run_so settings [] occasions (starting (upper (client_profile settings)) Paging) now runs well (record { told = refl; stood = tt })).stood
