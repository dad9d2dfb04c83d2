-- What passed on the channel of multiplexers stays in order with what is said later, and on whatever channel alone carries packets.
use Rattle.std.proofs.Common.{◌≡◌, ℕ, Bool, true, false, cond, eqb, List, [], ◌∷◌, ◌++◌, map, find, Option, Some, None, refl, sym, ap, subst, ◌∙◌, append_assoc, append-nil}
use Rattle.std.specs.List.{AllByRecursion}
use Rattle.std.proofs.lemmas.List.{map-append}
use Rattle.request_laws.specs.bt_base.specs.declared.settings.Settings.{Settings}
use Rattle.request_laws.specs.bt_base.specs.declared.settings.Transport.TheVariants.{Rfcomm}
use Rattle.request_laws.specs.capture.specs.declared.flow.Flow.TheVariants.{Out, Into}
use Rattle.request_laws.specs.capture.specs.Histories.{EachAfter, each_after, given_by}
use Rattle.request_laws.specs.capture.proofs.HistoryLaws.{each_after-both}
use Rattle.request_laws.specs.l2cap_config.specs.declared.wish.Mode.{Mode}
use Rattle.request_laws.specs.link_talk.specs.declared.channel.Channel.{Channel}
use Rattle.request_laws.specs.link_talk.specs.declared.party.Party.{Party}
use Rattle.request_laws.specs.link_talk.specs.Carriages.{Carriage, is_heard, is_on, taker, carried, stretch, has_own, mode_of}
use Rattle.request_laws.specs.link_talk.specs.Channels.{Entry, reading}
use Rattle.request_laws.specs.link_talk.specs.Gains.{gained}
use Rattle.request_laws.specs.link_talk.specs.GrowingLaws.{has_opened}
use Rattle.request_laws.specs.link_talk.specs.Packets.{passed}
use Rattle.request_laws.specs.link_talk.specs.Sayings.{Saying, Command, Carried, GaveUp}
use Rattle.request_laws.specs.link_talk.specs.Sdus.{Spoken, spoken_as, spoken_with, spoken, sdus_of}
use Rattle.request_laws.specs.link_talk.proofs.Growing.{stretch-grows, spoken-grows}
use Rattle.request_laws.specs.rfcomm_frames.specs.Multiplexing.{Passed}
use Rattle.request_laws.specs.channel_laws.specs.Endpoints.{IsOf}
use Rattle.request_laws.specs.channel_laws.specs.Views.{read_at}
use Rattle.request_laws.specs.channel_laws.proofs.Stretching.{unopened-stretch}
use Rattle.request_laws.specs.host_laws.specs.Carriers.{reader}
use Rattle.request_laws.specs.host_laws.specs.OneCarrier.{IsFor, CarriesAlone}
use Rattle.request_laws.specs.host_laws.specs.OverLinks.{GoesOut}
use Rattle.request_laws.specs.host_laws.proofs.Gaining.{found_in}
use Rattle.request_laws.proofs.Sole.{for_of}
use Rattle.carried_laws.specs.Orderly.{IsInOrder}
use Rattle.carried_laws.proofs.Ordering.{Next}
use Rattle.orderly_laws.specs.Carried.{passed_in, AreInOrder}
use Rattle.orderly_laws.proofs.Moments.{of-stays}

-- ---- what is said later goes out

abbrev IsOut : Spoken → Type 0
IsOut one = one.flow ≡ Out

outs_all : (octets : List (List ℕ)) → AllByRecursion IsOut (map (spoken_as Out) octets)
outs_all [] = tt
outs_all (one ∷ octets) = (refl, outs_all octets)

outs_both : (xs ys : List Spoken) → AllByRecursion IsOut xs → AllByRecursion IsOut ys → AllByRecursion IsOut (xs ++ ys)
outs_both [] ys one two = two
outs_both (x ∷ xs) ys one two = (one.0, outs_both xs ys one.1 two)

module _ (party : Party) (channel : Channel) where
  goes_out : (mode : Mode) (past : List Carriage) (talk : List Saying) (more : Saying) → GoesOut more → AllByRecursion IsOut (each_after (spoken_with party mode) past (carried is_heard channel talk more))
  goes_out mode past talk (Command flow answer) out = tt
  goes_out mode past talk (GaveUp forgone) out = absurd out
  goes_out mode past talk (Carried Into pdu) out = absurd out
  goes_out mode past talk (Carried Out pdu) out = by (is_on channel (taker is_heard Out pdu (reading talk).entries))
    where
      one : Carriage
      one = record { flow = Out; pdu = pdu }

      by : (here : Bool) → AllByRecursion IsOut (each_after (spoken_with party mode) past (cond here (one ∷ []) []))
      by true = outs_both (spoken_with party mode past one) [] (outs_all (gained (sdus_of party mode Out) past one)) tt
      by false = tt

  unopened_spoken : (talk : List Saying) → has_opened (find (has_own channel) (reading talk).entries) ≡ false → spoken party channel talk ≡ []
  unopened_spoken talk shut = ap (given_by (spoken_with party (mode_of channel talk))) (unopened-stretch channel talk shut)

  record More (talk later : List Saying) : Type 0 where
    new : List Spoken
    out : AllByRecursion IsOut new
    is : spoken party channel later ≡ spoken party channel talk ++ new

  one_more : (talk : List Saying) (more : Saying) → GoesOut more → More talk (talk ++ more ∷ [])
  one_more talk more out = by (has_opened (find (has_own channel) (reading talk).entries)) refl
    where
      by : (opened : Bool) → has_opened (find (has_own channel) (reading talk).entries) ≡ opened → More talk (talk ++ more ∷ [])
      by true open' = record { new = each_after (spoken_with party (mode_of channel talk)) (stretch channel talk) (carried is_heard channel talk more); out = goes_out (mode_of channel talk) (stretch channel talk) talk more out; is = spoken-grows party channel talk more open' }
      by false shut =
          let mode = mode_of channel (talk ++ more ∷ []) in
          record {
            new = each_after (spoken_with party mode) [] (carried is_heard channel talk more);
            out = goes_out mode [] talk more out;
            is = ap (given_by (spoken_with party mode)) (stretch-grows channel talk more ∙ ap (λ (l : List Carriage). l ++ carried is_heard channel talk more) (unopened-stretch channel talk shut))
                ∙ ap (λ (l : List Spoken). l ++ each_after (spoken_with party mode) [] (carried is_heard channel talk more)) (sym (unopened_spoken talk shut));
          }

  all_more : (talk outs : List Saying) → AllByRecursion GoesOut outs → More talk (talk ++ outs)
  all_more talk [] out = record { new = []; out = tt; is = ap (spoken party channel) (append-nil talk) ∙ sym (append-nil (spoken party channel talk)) }
  all_more talk (more ∷ outs) out =
      let one = one_more talk more out.0 in
      let rest = all_more (talk ++ more ∷ []) outs out.1 in
      subst (More talk) (append_assoc talk (more ∷ []) outs) (record {
        new = one.new ++ rest.new;
        out = outs_both one.new rest.new one.out rest.out;
        is = rest.is ∙ ap (λ (l : List Spoken). l ++ rest.new) one.is ∙ append_assoc (spoken party channel talk) one.new rest.new;
      })

-- ---- so it stays in order

found_own : (own : ℕ) (entries : List Entry) (entry : Entry) → read_at own entries ≡ Some entry → eqb entry.channel.own own ≡ true
found_own own [] entry is = cc
found_own own (first ∷ entries) entry is = by (found_own own entries entry) (eqb first.channel.own own) refl is
  where
    by : (read_at own entries ≡ Some entry → eqb entry.channel.own own ≡ true) → (here : Bool) → eqb first.channel.own own ≡ here → cond here (Some first) (read_at own entries) ≡ Some entry → eqb entry.channel.own own ≡ true
    by later true here same = let one : first ≡ entry = cc in ap (λ (e : Entry). eqb e.channel.own own) (sym one) ∙ here
    by later false here same = later same

module _ (settings : Settings) where
  abbrev pub muxed : Party
  muxed = reader settings settings.mps Rfcomm

  outs_order : (past : List Passed) (new : List Spoken) → AllByRecursion IsOut new → EachAfter (Next settings) past (map (passed muxed) new)
  outs_order past [] out = tt
  outs_order past (one ∷ new) out =
      (subst (λ f. (let s : Spoken = record { flow = f; octets = one.octets } in Next settings past (passed muxed s))) (sym out.0) tt, outs_order (past ++ passed muxed one ∷ []) new out.1)

  order_more : (xs new : List Spoken) → IsInOrder settings (map (passed muxed) xs) → AllByRecursion IsOut new → IsInOrder settings (map (passed muxed) (xs ++ new))
  order_more xs new order out =
      subst (IsInOrder settings) (sym (map-append (passed muxed) xs new)) (each_after-both (Next settings) [] (map (passed muxed) xs) (map (passed muxed) new) order (outs_order ([] ++ map (passed muxed) xs) new out))

  -- on the channel of a talk, by which it may not be there yet
  in_talk : (channel : Channel) (talk outs : List Saying) → channel.psm ≡ 0x0003 → CarriesAlone channel (talk ++ outs) → AreInOrder settings talk → IsInOrder settings (passed_in muxed channel talk)
  in_talk channel talk outs psm_is alone all = by (read_at channel.own (reading talk).entries) refl
    where
      by : (found : Option Entry) → read_at channel.own (reading talk).entries ≡ found → IsInOrder settings (passed_in muxed channel talk)
      by None at = subst (λ (l : List Spoken). IsInOrder settings (map (passed muxed) l)) (sym (unopened_spoken muxed channel talk (ap has_opened at))) tt
      by (Some entry) at =
          let here : IsOf entry.channel (read_at channel.own (reading talk).entries) = subst (IsOf entry.channel) (sym at) refl in
          let fit : IsFor channel entry.channel = for_of channel entry.channel (talk ++ outs) channel.own alone (of-stays entry.channel channel.own talk outs here) in
          let same : entry.channel ≡ channel = fit.same (found_own channel.own (reading talk).entries entry at) in
          subst (λ (c : Channel). IsInOrder settings (passed_in muxed c talk)) same
          (found_in channel.own (λ (e : Entry). e.channel.psm ≡ 0x0003 → IsInOrder settings (passed_in muxed e.channel talk)) (reading talk).entries entry all at (ap (λ (c : Channel). c.psm) same ∙ psm_is))

  pub in-order : (channel : Channel) (talk outs : List Saying) → AllByRecursion GoesOut outs → channel.psm ≡ 0x0003 → CarriesAlone channel (talk ++ outs) → AreInOrder settings talk → IsInOrder settings (passed_in muxed channel (talk ++ outs))
  in-order channel talk outs out psm_is alone all =
      let more = all_more muxed channel talk outs out in
      subst (λ (l : List Spoken). IsInOrder settings (map (passed muxed) l)) (sym more.is) (order_more (spoken muxed channel talk) more.new (in_talk channel talk outs psm_is alone all) more.out)
