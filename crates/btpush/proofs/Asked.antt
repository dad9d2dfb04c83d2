-- What is left of a form that needs hosts where the words could not be read, and what words for it do not ask for.
use Rattle.std.proofs.Common.{◌≡◌, ℕ, List, Option, Some, None, IfSome, IfErr, Result, Ok, Err, refl, ap, subst, arith, inl, inr}
use Rattle.bt_base.specs.Objects.{Contents}
use Rattle.clap.specs.Words.{Text}
use Rattle.command_words.specs.Forms.{AsksFor}
use Rattle.command_words.specs.declared.form.Form.{Form}
use Rattle.command_words.specs.declared.form.Form.TheVariants.{Push, Receive, Make}
use Rattle.command_words.proofs.Asking.{asks_once}
use Rattle.btpush_forms.specs.declared.status.Status.{Status}
use Rattle.btpush_forms.specs.declared.status.Status.TheVariants.{BadWords, NoMemory}
use Rattle.btpush_forms.specs.Ports.{Written}
use Rattle.btpush_forms.specs.Run.{HasCauses, HasEnded}
use Rattle.btpush_forms.specs.Words.{AskForTrace, hosted_form}
use Rattle.btpush_forms.specs.declared.hosted.Hosted.{Hosted}
use Rattle.btpush_forms.specs.h4_view.specs.View.{IsAnswered}
use Rattle.object_push.specs.Ports.{Ports}
use Rattle.object_push.specs.Pushing.{Pushes, NotRead}
use Rattle.making.specs.Making.{IsKnown, Makes, NotMade}
use Rattle.receiving.specs.bt_host.specs.obex_session.specs.Counting.{Counts}
use Rattle.receiving.proofs.Beginning.{nothing_received}
use Rattle.stream_laws.specs.StreamsByLinks.{StoresByLinks}
use Rattle.stream_laws.proofs.StreamsByLinks.{receives_store_by_links}

-- words for a push ask for no other form
pub not_push : (words : List Text) (form : Form) → AsksFor words Push → (form ≡ Push → ⊥) → AsksFor words form → ⊥
not_push words form asks differs asks' = differs (asks_once words form Push asks' asks)

pub not_receive : (words : List Text) (form : Form) → AsksFor words Receive → (form ≡ Receive → ⊥) → AsksFor words form → ⊥
not_receive words form asks differs asks' = differs (asks_once words form Receive asks' asks)

-- what needs hosts is asked for
pub asks_hosted : (result : Result Status Hosted) (hosted : Hosted) (words : List Text) → IfErr result (λ h. AsksFor words (hosted_form h)) → result ≡ Err hosted → AsksFor words (hosted_form hosted)
asks_hosted result hosted words asked is = rw is at asked

pub not_make : (words : List Text) (number : ℕ) (form : Form) → AsksFor words (Make number) → (form ≡ Make number → ⊥) → AsksFor words form → ⊥
not_make words number form asks differs asks' = differs (asks_once words form (Make number) asks' asks)

pub push_traces : (words : List Text) → AsksFor words Push → AskForTrace words
push_traces words asks = (Push, tt, asks)

-- there was no memory to read the words
pub nothing_pushed : (content left : Option (List ℕ)) (old new : Ports) (Untouched : Type 0) (result : Status) → result ≡ NoMemory → left ≡ content → new.sink.content ≡ old.sink.content → Untouched
    → IfSome content (λ input. Pushes input left old new Untouched result)
nothing_pushed None left old new Untouched result is same_source same_sink same = tt
nothing_pushed (Some input) left old new Untouched result is same_source same_sink same = rw (is, same_source) (NotRead 0 refl same_sink same tt)

pub receives_nothing : (source sink trace : Option (List ℕ)) (inbox : Option Contents) (counts : Counts) (source' sink' trace' : Option (List ℕ)) (result : Status) → result ≡ NoMemory → source' ≡ source → sink' ≡ sink → trace' ≡ trace
    → StoresByLinks source source' sink sink' trace trace' inbox inbox counts counts result
receives_nothing source sink trace inbox counts source' sink' trace' result is same_source same_sink same_trace =
    rw (is, same_source, same_sink, same_trace) (receives_store_by_links source source sink sink trace trace inbox inbox counts counts NoMemory (nothing_received source sink trace inbox counts counts))

-- ---- the scenario of a number

abbrev number_of : Form → ℕ
number_of (Make number) = number
number_of _ = 0

-- words ask for one number
pub made_so : (words : List Text) (asked number : ℕ) (sink sink' trace trace' : Written) (result : Status) → AsksFor words (Make asked) → AsksFor words (Make number) → Makes asked sink sink' trace trace' result → Makes number sink sink' trace trace' result
made_so words asked number sink sink' trace trace' result asks asks' makes =
    subst (λ (n : ℕ). Makes n sink sink' trace trace' result) (ap number_of (asks_once words (Make asked) (Make number) asks asks')) makes

pub nothing_made : (number : ℕ) (sink sink' trace trace' : Written) (result : Status) → result ≡ NoMemory → sink' ≡ sink → trace' ≡ trace → Makes number sink sink' trace trace' result
nothing_made number sink sink' trace trace' result is same_sink same_trace = NotMade is (ap (λ (w : Written). w.content) same_sink) (ap (λ (w : Written). w.content) same_trace)

pub makes_no_bad_words : (result : Status) → IsKnown result → result ≡ BadWords → ⊥
makes_no_bad_words result known is = no_bad_words (subst IsKnown is known)
  where
    no_bad_words : IsKnown BadWords → ⊥
    no_bad_words (inl ended) = ended
    no_bad_words (inr (inl is)) = absurd cc
    no_bad_words (inr (inr is)) = absurd cc

-- a source that is left alone has no part in what comes
pub left_alone : (source source' sink sink' trace trace' : ℕ) (result : Status) → source' ≡ source → HasCauses 0 0 sink sink' trace trace' result → HasCauses source source' sink sink' trace trace' result
left_alone source source' sink sink' trace trace' result same causes = record {
  source_stays = omega (arith, same);
  sink_stays = causes.sink_stays;
  trace_stays = causes.trace_stays;
  read = λ is. absurd (omega (arith, causes.read is));
  write = causes.write;
  only_read = λ rose. absurd (omega (arith, same, rose));
  only_write = causes.only_write;
  only_trace = causes.only_trace;
}

pub unanswered : (count count' : ℕ) (Answer : Type 0) → count' ≡ count → IsAnswered count count' Answer
unanswered count count' Answer same = record { stays = omega (arith, same); only = λ rose. absurd (omega (arith, same, rose)) }

pub no_end : (result : Status) → result ≡ NoMemory → HasEnded result → ⊥
no_end result is ended = rw is at ended
