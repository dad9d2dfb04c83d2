-- A host at its beginning.
use Rattle.std.proofs.Common.{◌≡◌, ◌∙◌, ℕ, true, false, nat_lt, List, [], ◌++◌, length, refl, sym, ap, subst, true≢false, arith}
use Rattle.std.specs.Prelude.{Option, Result, Err}
use Rattle.std.proofs.lemmas.List.{append-nil}
use Rattle.bt_base.specs.Objects.{Contents}
use Rattle.bt_base.specs.PlainSettings.{IsPlain}
use Rattle.bt_base.specs.Streams.{gained, GainedFront}
use Rattle.bt_base.proofs.PortLaws.{front_none}
use Rattle.btpush_forms.specs.declared.status.Status.TheVariants as status
use Rattle.h4_framing.specs.Framing.{Framing}
use Rattle.h4_framing.proofs.TakingLemmas.{nothing_unfinished}
use Rattle.bt_host.specs.host_link.specs.declared.role.Role.TheVariants.{Server}
use Rattle.bt_host.specs.host_link.specs.PuttingOut.{started}
use Rattle.bt_host.specs.obex_session.specs.Counting as counting
use Rattle.bt_host.specs.obex_session.proofs.CountingLaws.{counted_none}
use Rattle.bt_host.specs.host_model.specs.Circumstances.{Circumstance}
use Rattle.bt_host.specs.host_model.specs.Profiles.{Profile}
use Rattle.bt_host.specs.host_model.specs.Hosts.{Host}
use Rattle.bt_host.specs.host_model.specs.Settings.{plain_settings}
use Rattle.bt_host.specs.NotedHosts.{noted_server}
use Rattle.bt_host.specs.Refusals.{acl_limit, fresh_framing}
use Rattle.bt_host.specs.Stacks.{Rests}
use Rattle.receiving.specs.declared.fault.ListenFault.{ListenFault}
use Rattle.receiving.specs.declared.fault.ListenFault.TheVariants.{Refused, ReadFault, WriteFault, NoMemory}
use Rattle.receiving.specs.Turns.{Stand, HasRest, Begun, begun, emptied}
use Rattle.receiving.specs.Coming.{Beside, Halts, Comes}
use Rattle.receiving.specs.Faring.{Fares, IsOfSink}
use Rattle.receiving.specs.Receiving.{Receives, new_server_host, beside_counts}
use Rattle.receiving.proofs.Still.{rests_emptied}
use Rattle.receiving.proofs.Streams.{took_nothing}

-- ---- nothing was fed

began : {S : Type 0} (A : Profile S) (first : Begun S) (source : Option (List ℕ)) (stands : Stand S) (before after : Beside) (result : Result (Unit {0}) ListenFault) → Halts A first [] [] source stands before after result
    → Comes A first source source stands before after result
began A first source stands before after result halts = record { octets = []; behind = []; took = took_nothing source source refl; within = omega arith; halts = halts }

-- there was no memory
pub nothing_comes : {S : Type 0} (A : Profile S) (first : Begun S) (source : Option (List ℕ)) (stands : Stand S) (before : Beside) (counts : counting.Counts) → Comes A first source source stands before (record { sink = before.sink; counts = counts }) (Err NoMemory)
nothing_comes A first source stands before counts = began A first source stands before (record { sink = before.sink; counts = counts }) (Err NoMemory) (record {
  turns = [];
  last = first.posture;
  runs = refl;
  each = tt;
  rest = [];
  whole = refl;
  ends = tt;
  wrote = front_none before.sink (first.said ++ []);
  there = tt;
  answered = tt;
})

-- what it said at first could not be written
pub breaks_first : {S : Type 0} (A : Profile S) (first : Begun S) (source : Option (List ℕ)) (stands : Stand S) (sink sink' : Option (List ℕ)) (counts : counting.Counts) → GainedFront sink sink' first.said → stands ≡ first.posture.stands → (why : ListenFault) → IsOfSink why
    → Comes A first source source stands (beside_counts sink counts) (beside_counts sink' counts) (Err why)
breaks_first A first source stands sink sink' counts front is (Refused refusal place) of = absurd of
breaks_first A first source stands sink sink' counts front is ReadFault of = absurd of
breaks_first A first source stands sink sink' counts front is WriteFault of = began A first source stands (beside_counts sink counts) (beside_counts sink' counts) (Err WriteFault) (record {
  turns = [];
  last = first.posture;
  runs = refl;
  each = tt;
  rest = [];
  whole = refl;
  ends = tt;
  wrote = subst (λ (xs : List ℕ). GainedFront sink sink' xs) (sym (append-nil first.said)) front;
  there = is;
  answered = counted_none counts;
})
breaks_first A first source stands sink sink' counts front is NoMemory of = began A first source stands (beside_counts sink counts) (beside_counts sink' counts) (Err NoMemory) (record {
  turns = [];
  last = first.posture;
  runs = refl;
  each = tt;
  rest = [];
  whole = refl;
  ends = tt;
  wrote = subst (λ (xs : List ℕ). GainedFront sink sink' xs) (sym (append-nil first.said)) front;
  there = tt;
  answered = tt;
})

-- it was written, and the host goes on
pub fares_first : {S : Type 0} (A : Profile S) (framing : Framing) (old now : Stand S) (sink sink' : Option (List ℕ)) (counts : counting.Counts) → framing ≡ fresh_framing → HasRest A old → ((rest : List Circumstance) → nat_lt (length ((old rest).line.out)) 65536 ≡ true)
    → now ≡ (λ rest. emptied (old rest)) → sink' ≡ gained sink (old []).line.out → Fares A (begun old) [] framing now (beside_counts sink counts) (beside_counts sink' counts)
fares_first A framing old now sink sink' counts fresh rests room is wrote =
    subst (λ (s : Stand _). Fares A (begun old) [] framing s (beside_counts sink counts) (beside_counts sink' counts)) (sym is)
    (subst (λ (f : Framing). Fares A (begun old) [] f (λ rest. emptied (old rest)) (beside_counts sink counts) (beside_counts sink' counts)) (sym fresh)
    (record {
      turns = [];
      full = false;
      heard = false;
      runs = refl;
      each = tt;
      whole = refl;
      place = refl;
      limit = refl;
      sound = refl;
      unfinished = nothing_unfinished acl_limit;
      wrote = wrote ∙ ap (gained sink) (sym (append-nil (old []).line.out));
      answered = counted_none counts;
      empty = λ rest. refl;
      rests = λ off rest. rests_emptied A (old rest) (rests rest) (room rest);
      paused = λ both. absurd (true≢false (sym both));
    }))

-- ---- a new server

pub new_rests : {S : Type 0} (A : Profile S) (host : Host S) (paged : List ℕ) → A.wants_link host.profile ≡ false → Rests A (record { line = started Server; host = host; paged = paged })
new_rests A host paged wants_none = record {
  pieces = refl;
  command = refl;
  said = λ may. absurd (true≢false (sym may));
  keeps = λ none more leaves. refl;
  asks = λ wants off few. absurd (true≢false (sym wants ∙ wants_none));
}

pub plain : IsPlain plain_settings
plain = record { transport = refl; serves = refl; mtu = refl; mps = refl; window = refl; tries = refl; credits = refl; obex = refl; srm = refl }

-- there was no memory
pub nothing_received : (source sink trace : Option (List ℕ)) (inbox : Option Contents) (counts counts' : counting.Counts) → Receives source source sink sink trace trace inbox inbox counts counts' status.NoMemory
nothing_received source sink trace inbox counts counts' = record {
  settings = plain_settings;
  plain = plain;
  stands = new_server_host plain_settings inbox;
  end = Err NoMemory;
  comes = nothing_comes (noted_server plain_settings) (begun (new_server_host plain_settings inbox)) source (new_server_host plain_settings inbox) (beside_counts sink counts) counts';
  stored = tt;
  tells = (refl, refl);
}
