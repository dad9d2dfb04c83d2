-- A client may begin a push, whatever became of those before.
use Rattle.std.proofs.Common.{◌≡◌, ℕ, ◌≤◌, ◌<◌, ◌^◌, ◌++◌, Bool, true, false, cond, List, [], ◌∷◌, length, Option, Some, None, Result, Ok, Err, refl, sym, subst, ◌∙◌, arith, min}
use Rattle.std.specs.Char.Escape.{encode_utf16}
use Rattle.std.specs.List.{flat_map}
use Rattle.std.proofs.lemmas.Str.{chars-nil}
use Rattle.pair_laws.specs.bt_base.specs.declared.ports.PortFault.{PortFault}
use Rattle.pair_laws.specs.bt_base.specs.declared.ports.PortFault.TheVariants as fault
use Rattle.pair_laws.specs.bt_base.specs.declared.settings.Settings.{Settings}
use Rattle.pair_laws.specs.bt_base.specs.declared.settings.Transport.{Transport}
use Rattle.pair_laws.specs.bt_base.specs.declared.settings.Transport.TheVariants.{L2cap, Rfcomm}
use Rattle.pair_laws.specs.push_terms.specs.declared.outcome.Outcome.{Outcome}
use Rattle.pair_laws.specs.push_terms.specs.declared.outcome.Outcome.TheVariants as outcomes
use Rattle.pair_laws.specs.obex_session.specs.PutPackets.{units_in}
use Rattle.pair_laws.specs.push_model.specs.Client.{Client, own_maximum, begun_by, with_object, new_client, may_cancel, ends, ends_by}
use Rattle.pair_laws.specs.push_model.specs.Laws as push
use Rattle.pair_laws.specs.push_model.specs.Laws.{Deed, Hears, Asks, Finishes, Cancels, all_done}
use Rattle.pair_laws.specs.push_laws.specs.Sending.{packets_by, AnswersTo, MayPush}
use Rattle.pair_laws.specs.push_laws.proofs.Inverting.{Sends, Rests, Connects, Puts, Aborts, Leaves, asks_send}
use Rattle.pair_laws.specs.push_laws.proofs.Pushing.{Task, Fixed, Fresh, Stands}
use Rattle.pair_laws.specs.push_laws.proofs.Sending.{deed_stands}
use Rattle.pair_laws.specs.push_laws.proofs.Staying.{multiplexers-stay}
use Rattle.pair_laws.specs.push_laws.proofs.Talks.{Talk, talk_of, Kept, news_keeps, hears_by}
use Rattle.pair_laws.specs.host_laws.specs.Answered.{IsSmall, IsAnswered}
use Rattle.pair_laws.specs.host_laws.specs.Pushing.{Affair, Begins, Does, client_after, client_behind, AllAsked}

-- ---- it stays on its transport

abbrev IsDirect : Talk → Type 0
IsDirect t = t.transport ≡ L2cap

direct_kept : Kept IsDirect
direct_kept = record {
  unheard = record { ends = λ outcome t free none d. d; opens = λ limit t least most d. d };
  hears = λ packet client d. hears_by IsDirect (λ o t x. x) (λ contact t x. x) packet client d d;
}

sends_direct : (client : Client) (packets : List (List ℕ)) (after : Talk) → Sends None client packets after → after.transport ≡ client.transport
sends_direct client packets after (Rests none s c t) = t
sends_direct client packets after (Connects free is s c t) = t
sends_direct client packets after (Puts part free met none told is s c t) = t
sends_direct client packets after (Aborts free met is s c t) = t
sends_direct client packets after (Leaves free met is s c t) = t

ends_direct : (cause : Option Outcome) (o : Outcome) (client : Client) → client.transport ≡ L2cap → (ends_by cause o client).transport ≡ L2cap
ends_direct None o client d = d
ends_direct (Some earlier) o client d = d

either_direct : (test : Bool) (a b : Client) → a.transport ≡ L2cap → b.transport ≡ L2cap → (cond test a b).transport ≡ L2cap
either_direct true a b x y = x
either_direct false a b x y = y

deed_direct : (deed : Deed) (client : Client) → AnswersTo None deed client → client.transport ≡ L2cap → (push.done deed client).transport ≡ L2cap
deed_direct (Hears news) client answers d = news_keeps IsDirect direct_kept news client d
deed_direct (Asks parts) client answers d = sends_direct client _ (talk_of (push.done (Asks parts) client)) (asks_send None client parts d answers) ∙ d
deed_direct Finishes client answers d = d
deed_direct Cancels client answers d = either_direct (may_cancel client) (ends outcomes.Cancelled client) client (ends_direct client.cause outcomes.Cancelled client d) d

-- on either
deed_line : (line : Transport) (deed : Deed) (client : Client) → AnswersTo None deed client → client.transport ≡ line → (push.done deed client).transport ≡ line
deed_line L2cap deed client answers d = deed_direct deed client answers d
deed_line Rfcomm deed client answers d = (multiplexers-stay client (deed ∷ []) d).0

no_cause : (o : Outcome) → None ≡ Some o → ⊥
no_cause o e = cc

some_cause : (o : Outcome) → Some o ≡ None → ⊥
some_cause o e = cc

not_done : Some outcomes.ShelfFault ≡ Some outcomes.Done → ⊥
not_done e = cc

abbrev task : (maximum : ℕ) (wanted : Bool) (name : List ℕ) (size : ℕ) → Task
task maximum wanted name size = record { maximum = maximum; wanted = wanted; name = name; size = size; content = None }

module _ (line : Transport) (maximum : ℕ) (wanted : Bool) where
  -- ---- what is so of it at each moment, where it takes packets so long and wants single response mode, or not

  pub record Good (client : Client) : Type 0 where
    pub name : List ℕ
    pub size : ℕ
    pub sent : List (List ℕ)
    pub stands : Stands (task maximum wanted name size) sent (talk_of client)
    pub most : 255 ≤ maximum
    pub direct : client.transport ≡ line

  pub may_push : (most : ℕ) → most < 2 ^ 32 → (client : Client) (name : List ℕ) (size : ℕ) → Good client → IsSmall most (Ok size) name → MayPush client name size
  may_push most fits client name size good small =
      let fixed = good.stands.0 in
      let bounded : size ≤ most = small.bounded size refl in
      record { short = small.short; small = omega arith; own = subst (λ (n : ℕ). 255 ≤ n) (sym fixed.maximum) good.most; least = fixed.least; most = fixed.most }

  -- ---- whatever it does

  good_deed : (deed : Deed) (client : Client) → AnswersTo None deed client → Good client → Good (push.done deed client)
  good_deed deed client answers good =
      let w = task maximum wanted good.name good.size in
      record {
        name = good.name;
        size = good.size;
        sent = good.sent ++ packets_by deed client;
        stands = deed_stands w good.sent deed client answers good.stands;
        most = good.most;
        direct = deed_line line deed client answers good.direct;
      }

  fixed_anew : (client : Client) (name : List ℕ) (size : ℕ) → (good : Good client) → length (units_in name) ≤ 100 → size < 2 ^ 32 → Fixed (task maximum wanted name size) (with_object name size client).session name size client.limit
  fixed_anew client name size good short bounded =
      let fixed = good.stands.0 in
      record { maximum = fixed.maximum; wanted = fixed.wanted; name_is = refl; size_is = refl; short = short; small = omega arith; least = fixed.least; most = fixed.most }

  good_begun : (most : ℕ) → most < 2 ^ 32 → (size : Result ℕ PortFault) (name : List ℕ) (client : Client) → IsSmall most size name → Good client → Good (begun_by size name client)
  good_begun most fits (Ok size) name client small good =
      let bounded : size ≤ most = small.bounded size refl in
      let w = task maximum wanted name size in
      let own : 255 ≤ client.session.maximum = subst (λ (n : ℕ). 255 ≤ n) (sym good.stands.0.maximum) good.most in
      record {
        name = name;
        size = size;
        sent = [];
        stands = (fixed_anew client name size good small.short (omega (arith, bounded, fits)), Fresh refl refl refl refl (λ e. own) (no_cause outcomes.Done));
        most = good.most;
        direct = good.direct;
      }
  good_begun most fits (Err fault.Failed) name client small good =
      let w = task maximum wanted name 0 in
      record {
        name = name;
        size = 0;
        sent = [];
        stands = (fixed_anew client name 0 good small.short (omega arith), Fresh refl refl refl refl (λ e. absurd (some_cause outcomes.ShelfFault e)) not_done);
        most = good.most;
        direct = good.direct;
      }
  good_begun most fits (Err fault.NoMemory) name client small good = record { name = good.name; size = good.size; sent = good.sent; stands = good.stands; most = good.most; direct = good.direct }

  either_good : (test : Bool) (a b : Client) → Good a → Good b → Good (cond test a b)
  either_good true a b x y = x
  either_good false a b x y = y

  pub good_affair : (most : ℕ) → most < 2 ^ 32 → (one : Affair) (client : Client) → IsAnswered most one client → Good client → Good (client_after one client)
  good_affair most fits (Begins size name) client small good = either_good client.failed client (begun_by size name client) good (good_begun most fits size name client small good)
  good_affair most fits (Does deed) client answers good = good_deed deed client answers good

  pub good_all : (most : ℕ) → most < 2 ^ 32 → (affairs : List Affair) (client : Client) → AllAsked (IsAnswered most) affairs client → Good client → Good (client_behind affairs client)
  good_all most fits [] client answered good = good
  good_all most fits (one ∷ rest) client answered good = good_all most fits rest (client_after one client) answered.1 (good_affair most fits one client answered.0 good)

-- ---- the first moment

pub no_units : length (units_in []) ≤ 100
no_units = subst (λ (cs : List ℕ). length (flat_map encode_utf16 cs) ≤ 100) (sym chars-nil) (omega arith)

least_min : (a b : ℕ) → 255 ≤ a → 255 ≤ b → 255 ≤ min a b
least_min a b x y = omega arith

own_least : (line : Transport) (settings : Settings) → 255 ≤ own_maximum line settings
own_least L2cap settings = least_min settings.obex settings.mtu settings.obex_low settings.mtu_low
own_least Rfcomm settings = settings.obex_low

pub good_first : (settings : Settings) (line : Transport) → settings.transport ≡ line → Good line (new_client settings).session.maximum (new_client settings).session.wanted (new_client settings)
good_first settings line is =
    let own : 255 ≤ (new_client settings).session.maximum = own_least settings.transport settings in
    record {
      name = [];
      size = 0;
      sent = [];
      stands = (record { maximum = refl; wanted = refl; name_is = refl; size_is = refl; short = no_units; small = omega arith; least = omega arith; most = omega arith }, Fresh refl refl refl refl (λ e. own) (no_cause outcomes.Done));
      most = own;
      direct = is;
    }

-- ---- lists of affairs

pub client-both : (xs ys : List Affair) (client : Client) → client_behind (xs ++ ys) client ≡ client_behind ys (client_behind xs client)
client-both [] ys client = refl
client-both (x ∷ xs) ys client = client-both xs ys (client_after x client)
