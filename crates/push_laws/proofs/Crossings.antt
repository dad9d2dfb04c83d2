-- What an occurrence is to the channel of the object: nothing, a request that comes, a response that goes, or its end.
use Rattle.std.proofs.Common.{Bool, true, false, cond, ◌≡◌, ℕ, ◌&&◌, ◌||◌, List, [], Option, Some, None, refl, sym, ap, subst, ◌∙◌}
use Rattle.std.specs.Prelude.{not}
use Rattle.std.proofs.lemmas.Bool.{cond_both, cond-false}
use Rattle.link_talk.specs.bt_base.specs.declared.settings.Settings.{Settings}
use Rattle.push_model.specs.rfcomm_frames.specs.FrameReading.{is_empty}
use Rattle.push_model.specs.declared.outlet.Outlet.{Outlet}
use Rattle.push_model.specs.declared.outlet.Outlet.TheVariants.{Records, Direct, Muxed}
use Rattle.push_model.specs.Payloads.{IsSaid, Octets}
use Rattle.push_model.specs.Server.{Server, Reacted, Lent, hears_search, hears_on, frame_lent, lent_by, taken_by, closed_on, object_psm}
use Rattle.push_laws.specs.Occurrences as occurrences
use Rattle.push_laws.specs.Occurrences.{Occurrence, Came, Closed, LinkDown, Asked, Answering, done, IsOwn}
use Rattle.push_laws.specs.Parties.{sdu_if, come_by, gone_by, NoFrame}
use Rattle.push_laws.specs.Readings.{closes, came_on}
use Rattle.push_laws.specs.Turns.{in_silence, due_behind}
use Rattle.push_laws.proofs.Answering.{lends_keep}
use Rattle.push_laws.proofs.Servers.{by_psm}

abbrev pub response_of : Server → List ℕ
response_of server = server.listener.service.response

-- nothing comes or goes there, and the response that waits stays
pub record IsApart (one : Occurrence) (at : Reacted) : Type 0 where
  pub come : come_by one ≡ []
  pub gone : gone_by one ≡ []
  pub stays : closes object_psm one ≡ false
  pub none : came_on object_psm one ≡ None
  pub due : (settings : Settings) (past : List Occurrence) (due : Bool) → due_behind settings past due one ≡ due
  pub response : response_of (done one at).server ≡ response_of at.server

-- the response goes that waited
pub record Goes (sdu : List ℕ) (one : Occurrence) (at : Reacted) : Type 0 where
  pub is : one ≡ occurrences.Went object_psm sdu
  pub octets : sdu ≡ response_of at.server
  pub lent : at.server.lent ≡ Some Direct
  pub none : response_of (done one at).server ≡ []

pub data Kind (one : Occurrence) (at : Reacted) : Type 0 where
  Apart : IsApart one at → Kind one at
  Comes : (sdu : List ℕ) → one ≡ Came object_psm sdu → Kind one at
  Went : (sdu : List ℕ) → Goes sdu one at → Kind one at
  Ends : closes object_psm one ≡ true → Kind one at

or_false : (due : Bool) → (due || false) ≡ due
or_false true = refl
or_false false = refl

unless : (failed : Bool) (at after : Reacted) → response_of after.server ≡ response_of at.server → response_of (cond failed (let r : Reacted = record { server = at.server; gift = at.gift } in r) after).server ≡ response_of at.server
unless true at after e = refl
unless false at after e = e

search_keeps : (sdu : List ℕ) (server : Server) → response_of (hears_search sdu server) ≡ response_of server
search_keeps sdu server = cond_both (is_empty server.reply) _ _ (λ (s : Server). response_of s ≡ response_of server) (λ e. refl) (λ e. refl)

came_kind : (sdu : List ℕ) (at : Reacted) (psm : ℕ) → NoFrame (Came psm sdu) → Kind (Came psm sdu) at
came_kind sdu at psm =
    by_psm (λ p. NoFrame (Came p sdu) → Kind (Came p sdu) at)
    (λ direct. Apart (record {
      come = refl;
      gone = refl;
      stays = refl;
      none = refl;
      due = λ settings past due. or_false due;
      response = unless at.server.listener.service.failed at (hears_on 0x0001 sdu at.server at.gift) (search_keeps sdu at.server);
    }))
    (λ direct. absurd (direct refl))
    (λ direct. Comes sdu refl)
    (λ p x y z direct. Apart (record {
      come = ap (λ (b : Bool). sdu_if b sdu) z;
      gone = refl;
      stays = refl;
      none = cond-false _ _ _ z;
      due = λ settings past due. ap (λ (b : Bool). due || (b && not (in_silence settings past sdu))) z ∙ or_false due;
      response = unless at.server.listener.service.failed at (hears_on p sdu at.server at.gift)
          (ap (λ (r : Reacted). response_of r.server) (cond-false _ _ _ x ∙ (cond-false _ _ _ y ∙ cond-false _ _ (let r : Reacted = record { server = at.server; gift = at.gift } in r) z)));
    }))
    psm

same_lent : (a b : Lent) → Some a ≡ Some b → a ≡ b
same_lent a b e = cc

no_lent : (lent : Lent) → None ≡ Some lent → ⊥
no_lent lent e = cc

went_kind : (o : Option Outlet) (psm : ℕ) (sdu : List ℕ) (at : Reacted) (lent : Lent) → o ≡ at.server.lent → lent_by o at.server ≡ Some lent → lent.psm ≡ psm → IsSaid lent.payload sdu → at.server.frame ≡ None → Kind (occurrences.Went psm sdu) at
went_kind None psm sdu at lent is e p said none = absurd (no_lent lent e)
went_kind (Some Muxed) psm sdu at lent is e p said none = absurd (no_lent lent (sym (ap frame_lent none) ∙ e))
went_kind (Some Records) psm sdu at lent is e p said none =
    subst (λ (n : ℕ). Kind (occurrences.Went n sdu) at) (ap (λ (l : Lent). l.psm) (same_lent _ lent e) ∙ p)
    (Apart (record { come = refl; gone = refl; stays = refl; none = refl; due = λ settings past due. refl; response = ap (λ (o : Option Outlet). response_of (taken_by o at.server)) (sym is) }))
went_kind (Some Direct) psm sdu at lent is e p said none =
    let same = same_lent (record { psm = 0x1001; payload = Octets (response_of at.server) }) lent e in
    Went sdu (record {
      is = ap (λ (n : ℕ). occurrences.Went n sdu) (sym (ap (λ (l : Lent). l.psm) same ∙ p));
      octets = subst (λ (l : Lent). IsSaid l.payload sdu) (sym same) said;
      lent = sym is;
      none = ap (λ (o : Option Outlet). response_of (taken_by o at.server)) (sym is);
    })

closed_kind : (at : Reacted) (psm : ℕ) → Kind (Closed psm) at
closed_kind at psm =
    by_psm (λ p. Kind (Closed p) at)
    (Apart (record { come = refl; gone = refl; stays = refl; none = refl; due = λ settings past due. refl; response = unless at.server.listener.service.failed at (closed_on 0x0001 at.server at.gift) refl }))
    (Apart (record { come = refl; gone = refl; stays = refl; none = refl; due = λ settings past due. refl; response = unless at.server.listener.service.failed at (closed_on 0x0003 at.server at.gift) refl }))
    (Ends refl)
    (λ p x y z. Apart (record {
      come = refl;
      gone = refl;
      stays = z;
      none = refl;
      due = λ settings past due. cond-false _ _ _ z;
      response = unless at.server.listener.service.failed at (closed_on p at.server at.gift)
          (ap (λ (r : Reacted). response_of r.server) (cond-false _ _ _ x ∙ (cond-false _ _ _ y ∙ cond-false _ _ (let r : Reacted = record { server = at.server; gift = at.gift } in r) z)));
    }))
    psm

-- no frame waits for the multiplexer's channel, and none comes
pub kind_of : (one : Occurrence) (at : Reacted) → NoFrame one → IsOwn one at.server → at.server.frame ≡ None → Kind one at
kind_of (Came psm sdu) at direct own none = came_kind sdu at psm direct
kind_of (occurrences.Went psm sdu) at direct own none = went_kind at.server.lent psm sdu at own.0 refl own.1 own.2 own.3 none
kind_of (Closed psm) at direct own none = closed_kind at psm
kind_of LinkDown at direct own none = Ends refl
kind_of Asked at direct own none = Apart (record { come = refl; gone = refl; stays = refl; none = refl; due = λ settings past due. refl; response = lends_keep at.server.lent at.server })
kind_of (Answering answers) at direct own none = Apart (record { come = refl; gone = refl; stays = refl; none = refl; due = λ settings past due. refl; response = refl })
