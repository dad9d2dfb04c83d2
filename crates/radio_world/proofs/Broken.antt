-- Runs of the world that broke off.
use Rattle.std.proofs.Common.{◌≡◌, ℕ, ◌+◌, ◌<◌, ◌^◌, true, List, [], ◌∷◌, ◌++◌, Option, inl, inr, refl, sym, ap, subst, ◌∙◌, append_assoc, arith}
use Rattle.std.proofs.lemmas.List.{append-nil}
use Rattle.bt_base.specs.Streams.{GainedFront}
use Rattle.bt_base.proofs.PortLaws.{front_none}
use Rattle.push_terms.specs.Words.{IsWord}
use Rattle.push_terms.specs.declared.word.Side.TheVariants.{A, B}
use Rattle.push_terms.specs.declared.word.Word.{Word}
use Rattle.capture.specs.Entries.{Entry, Acted, Begun, Ended, entry_octets, capture_octets}
use Rattle.radio_model.specs.Radio.{found, is_idle, after_deed}
use Rattle.room_laws.specs.world_model.specs.Machines.{Upper, Opening}
use Rattle.room_laws.specs.world_model.specs.Pushes.{one_begun, one_ended}
use Rattle.room_laws.specs.world_model.specs.Stations.{told}
use Rattle.room_laws.specs.world_model.specs.Worlds.{World, Turns, Opens, Closes, IsAtRest, all_words}
use Rattle.radio_world.specs.Hosts.{Asking, answering, JoinAnswers}
use Rattle.radio_world.specs.Leaving.{in_radio}
use Rattle.radio_world.specs.Halves.{happenings_of, half_of}
use Rattle.radio_world.specs.Scenes.{Scene, Moment, moment, world_at, Stage, stage, moment_of, Advances}
use Rattle.radio_world.specs.Turning.{can_be_done, done_by}
use Rattle.radio_world.specs.Breaking.{IsLeft, WentOn, IsOf, GoesBroken, BeginBroken, EndBroken, Broken}
use Rattle.radio_world.proofs.Lifting.{with_a, with_b, plays_a, plays_b, no_words, advances_a, advances_b}
use Rattle.radio_world.proofs.Advancing.{advances_none, advances_then, and_first, and_second, idle_is}
use Rattle.radio_world.proofs.Turned.{right_check, acted_on, acts_on}

one_entry : (entry : Entry) → entry_octets entry ≡ capture_octets (entry ∷ [])
one_entry entry = sym (append-nil (entry_octets entry))

-- the first of all words, and the first of those that come behind
words_then : (all ws vs more turned now later : List Word) → all ≡ ws ++ (vs ++ more) → vs ≡ turned ++ (now ++ later) → all ≡ (ws ++ turned) ++ (now ++ (later ++ more))
words_then all ws vs more turned now later are front =
    are ∙ ap (λ (l : List Word). ws ++ (l ++ more)) front ∙ ap (λ (l : List Word). ws ++ l) (append_assoc turned (now ++ later) more ∙ ap (λ (l : List Word). turned ++ l) (append_assoc now later more))
    ∙ sym (append_assoc ws turned (now ++ (later ++ more)))

module _ {S T G H P Q Y : Type 0} (U : Upper S G) (V : Upper T H) (RA : P → List G → P → Type 0) (RB : Q → List H → Q → Type 0) (LA : P → P → Type 0) (LB : Q → Q → Type 0) (station_b : Y → Q → Asking T H) (joins_a : JoinAnswers RA) (joins_b : JoinAnswers RB) where
  abbrev Off : List Word → Stage S T G H P Q → P → Q → Option (List ℕ) → Type 0
  Off words old shelf inbox trace = Broken U V RA RB LA LB station_b words old shelf inbox trace

  went_not : (shelf : P) → WentOn RA LA shelf shelf
  went_not shelf = inl ([], joins_a.none shelf)

  pub went_left : (shelf shelf' : P) → IsLeft LA shelf shelf' → WentOn RA LA shelf shelf'
  went_left shelf shelf' (inl same) = inl ([], subst (λ (p : P). RA shelf [] p) (sym same) (joins_a.none shelf))
  went_left shelf shelf' (inr lacked) = inr lacked

  -- nothing more was begun
  pub advances_no_more : (all ws later : List Word) (old mid : Stage S T G H P Q) → all ≡ ws ++ later → Advances U V RA RB ws old mid → IsOf station_b mid.b mid.inbox → Off all old mid.shelf mid.inbox mid.trace
  advances_no_more all ws later old mid are advances own = record {
    mid = mid;
    turned = ws;
    advances = advances;
    own_b = own;
    next = [];
    few = omega arith;
    may = λ rest_a rest_b. (moment_of mid rest_a rest_b, refl);
    later = later;
    words_are = are;
    front = front_none mid.trace [];
    each = tt;
    shelf_went = went_not mid.shelf;
    inbox_left = inl refl;
  }

  -- behind what happened before
  pub broken_then :
      (all ws vs more : List Word) (old mid : Stage S T G H P Q) (shelf : P) (inbox : Q) (trace : Option (List ℕ)) → all ≡ ws ++ (vs ++ more) → Advances U V RA RB ws old mid → Off vs mid shelf inbox trace → Off all old shelf inbox trace
  broken_then all ws vs more old mid shelf inbox trace are before broken = record {
    mid = broken.mid;
    turned = ws ++ broken.turned;
    advances = advances_then U V RA RB ws broken.turned old mid broken.mid joins_a joins_b before broken.advances;
    own_b = broken.own_b;
    next = broken.next;
    few = broken.few;
    may = broken.may;
    later = broken.later ++ more;
    words_are = words_then all ws vs more broken.turned (all_words broken.next) broken.later are broken.words_are;
    front = broken.front;
    each = broken.each;
    shelf_went = broken.shelf_went;
    inbox_left = broken.inbox_left;
  }

  -- ---- between a host and the radio

  pub broken_a : {X : Type 0} (station_a : X → P → Asking S G) (old : Scene) (a : Asking S G) (b : Asking T H) (shelf shelf' : P) (inbox : Q) (trace trace' : Option (List ℕ)) → IsOf station_b b inbox → GoesBroken U A RA LA station_a old.medium a shelf shelf' trace trace' → Off [] (stage old a b shelf inbox trace) shelf' inbox trace'
  broken_a station_a old a b shelf shelf' inbox trace trace' own broken = record {
    mid = stage (record old { medium = broken.medium_then }) broken.host_then b broken.port_then inbox broken.trace_then;
    turned = [];
    advances = advances_a U V RA RB old.medium broken.medium_then old.pushes old.turned a broken.host_then b shelf broken.port_then inbox trace broken.trace_then joins_b broken.goes;
    own_b = own;
    next = happenings_of A broken.next;
    few = broken.few;
    may = λ rest_a rest_b.
        let (half, makes) = broken.may rest_a in
        (with_a half (answering rest_b b) old.pushes old.turned, plays_a U V broken.next (half_of broken.medium_then broken.host_then rest_a) half (answering rest_b b) old.pushes old.turned makes);
    later = [];
    words_are = sym (ap (λ (ws : List Word). ws ++ []) (no_words A broken.next));
    front = broken.front;
    each = broken.each;
    shelf_went = went_left broken.port_then shelf' broken.left;
    inbox_left = inl refl;
  }

  pub broken_b : (old : Scene) (a : Asking S G) (b : Asking T H) (shelf : P) (inbox inbox' : Q) (trace trace' : Option (List ℕ)) → GoesBroken V B RB LB station_b old.medium b inbox inbox' trace trace' → Off [] (stage old a b shelf inbox trace) shelf inbox' trace'
  broken_b old a b shelf inbox inbox' trace trace' broken = record {
    mid = stage (record old { medium = broken.medium_then }) a broken.host_then shelf broken.port_then broken.trace_then;
    turned = [];
    advances = advances_b U V RA RB old.medium broken.medium_then old.pushes old.turned a b broken.host_then shelf inbox broken.port_then trace broken.trace_then joins_a broken.goes;
    own_b = broken.own;
    next = happenings_of B broken.next;
    few = broken.few;
    may = λ rest_a rest_b.
        let (half, makes) = broken.may rest_b in
        (with_b half (answering rest_a a) old.pushes old.turned, plays_b U V broken.next (half_of broken.medium_then broken.host_then rest_b) half (answering rest_a a) old.pushes old.turned makes);
    later = [];
    words_are = sym (ap (λ (ws : List Word). ws ++ []) (no_words B broken.next));
    front = broken.front;
    each = broken.each;
    shelf_went = went_not shelf;
    inbox_left = broken.left;
  }

  -- ---- a push begins, or ends

  pub begin_broken : (old : Scene) (a : Asking S G) (b : Asking T H) (shelf shelf' : P) (inbox : Q) (trace trace' : Option (List ℕ)) → IsOf station_b b inbox → BeginBroken U LA old a shelf shelf' trace trace' → Off [] (stage old a b shelf inbox trace) shelf' inbox trace'
  begin_broken old a b shelf shelf' inbox trace trace' own broken = record {
    mid = stage old a b shelf inbox trace;
    turned = [];
    advances = advances_none U V RA RB (stage old a b shelf inbox trace) joins_a joins_b;
    own_b = own;
    next = Opens (old.pushes.begun + 1) broken.name ∷ [];
    few = omega arith;
    may = λ rest_a rest_b.
        let new : Moment S T = moment (record old { pushes = one_begun old.pushes }) (told U [] (Opening broken.name) (answering rest_a a)) (answering rest_b b) in
        (new, (new, record { does = (broken.idle rest_a, broken.next, refl, [], refl); notes = refl }, refl));
    later = [];
    words_are = refl;
    front = subst (λ (xs : List ℕ). GainedFront trace trace' xs) (one_entry (Begun (old.pushes.begun + 1))) broken.front;
    each = (broken.entry, tt);
    shelf_went = went_left shelf shelf' broken.left;
    inbox_left = inl refl;
  }

  pub end_broken : (old : Scene) (a : Asking S G) (b : Asking T H) (shelf : P) (inbox : Q) (trace trace' : Option (List ℕ)) → IsOf station_b b inbox → EndBroken U old a trace trace' → Off [] (stage old a b shelf inbox trace) shelf inbox trace'
  end_broken old a b shelf inbox trace trace' own broken =
      let radio = old.medium.radio in
      let idle_a = idle_is radio.a (and_first (is_idle radio.a) (is_idle radio.b) broken.quiet) in
      let idle_b = idle_is radio.b (and_second (is_idle radio.a) (is_idle radio.b) broken.quiet) in
      record {
        mid = stage old a b shelf inbox trace;
        turned = [];
        advances = advances_none U V RA RB (stage old a b shelf inbox trace) joins_a joins_b;
        own_b = own;
        next = Closes old.pushes.begun broken.outcome ∷ [];
        few = omega arith;
        may = λ rest_a rest_b.
            let new : Moment S T = moment (record old { pushes = one_ended broken.outcome old.pushes }) (answering rest_a a) (answering rest_b b) in
            (new, (new, record { does = (broken.going, refl, broken.idle rest_a, broken.came rest_a, broken.apart, idle_a.1, idle_b.1, idle_a.0, idle_b.0, refl); notes = refl }, refl));
        later = [];
        words_are = refl;
        front = subst (λ (xs : List ℕ). GainedFront trace trace' xs) (one_entry (Ended old.pushes.begun broken.outcome)) broken.front;
        each = (broken.entry, tt);
        shelf_went = went_not shelf;
        inbox_left = inl refl;
      }

  -- ---- a word

  pub word_broken :
      (word : Word) (old : Scene) (a : Asking S G) (b : Asking T H) (shelf shelf' : P) (inbox inbox' : Q) (trace trace' : Option (List ℕ)) → IsOf station_b b inbox → old.turned + 1 < 2 ^ 64
      → ((rest_a : List G) (rest_b : List H) → IsAtRest U V (world_at (moment old (answering rest_a a) (answering rest_b b)))) → IsWord word
      → ((rest_a : List G) (rest_b : List H) → can_be_done U V (found word old.medium.radio) old.pushes (a.upper rest_a) (b.upper rest_b) ≡ true)
      → GainedFront trace trace' (entry_octets (Acted (old.turned + 1) word)) → WentOn RA LA shelf shelf' → IsLeft LB inbox inbox' → Off (word ∷ []) (stage old a b shelf inbox trace) shelf' inbox' trace'
  word_broken word old a b shelf shelf' inbox inbox' trace trace' own few rests is_word can front went left =
      let deed = found word old.medium.radio in
      record {
        mid = stage old a b shelf inbox trace;
        turned = [];
        advances = advances_none U V RA RB (stage old a b shelf inbox trace) joins_a joins_b;
        own_b = own;
        next = Turns (old.turned + 1) word ∷ [];
        few = omega arith;
        each = ((omega arith, few, is_word), tt);
        may = λ rest_a rest_b.
            let start : World S T = world_at (moment old (answering rest_a a) (answering rest_b b)) in
            let checked = right_check U V deed old.medium.radio (answering rest_a a) (answering rest_b b) in
            let new : Moment S T = moment (record old { medium = in_radio (after_deed checked deed old.medium.radio) old.medium; turned = old.turned + 1 }) (done_by U A deed [] (answering rest_a a)) (done_by V B deed [] (answering rest_b b)) in
            (new, (new, record { does = (rests rest_a rest_b, is_word, refl, acted_on U V deed checked [] [] start, acts_on U V deed [] [] start (can rest_a rest_b), refl); notes = refl }, refl));
        later = [];
        words_are = refl;
        front = subst (λ (xs : List ℕ). GainedFront trace trace' xs) (one_entry (Acted (old.turned + 1) word)) front;
        shelf_went = went;
        inbox_left = left;
      }
