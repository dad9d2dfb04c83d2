-- The example, worked out.
use Rattle.std.proofs.Common.{◌≡◌, ◌≤◌, ℕ, true, false, Bool, List, [], ◌∷◌, length, Option, Some, None, Ok, refl, sym, subst, arith}
use Rattle.std.proofs.Math.Utf8.{encode}
use Rattle.std.proofs.lemmas.Bool.{le-leb}
use Rattle.std.proofs.lemmas.Str.{chars-encodes}
use Rattle.std.specs.Char.Escape.{encode_utf16}
use Rattle.std.specs.List.{flat_map}
use Rattle.std.specs.Str.{chars}
use Rattle.rest_laws.specs.bt_base.specs.declared.settings.Settings.{Settings}
use Rattle.channel_model.specs.l2cap_signal.specs.Reading.{first, answers_within, answers}
use Rattle.push_model.specs.obex_session.specs.PutPackets.{units_in}
use Rattle.rest_laws.specs.world_model.specs.Machines.{Linked, Up}
use Rattle.host_model.specs.Circumstances.{Size}
use Rattle.host_model.specs.Clients.{ClientProfile, client_profile, opens}
use Rattle.host_model.specs.Hosts.{Host, drives, driven, ready, first_host}
use Rattle.host_model.specs.Machines.{client_host}
use Rattle.host_model.specs.Shelves.{is_short, size_if, name_if}
use Rattle.host_model.specs.Examples.{PushesBegin, opened, linked, said, request}

-- its name is short, so this is the host that the push has begun on
one_character : chars (0x61 ∷ []) ≡ 0x61 ∷ []
unfolding encode
one_character = chars-encodes (0x61 ∷ []) refl

short : is_short (0x61 ∷ []) ≡ true
short = le-leb (length (units_in (0x61 ∷ []))) 100 (subst (λ (cs : List ℕ). length (flat_map encode_utf16 cs) ≤ 100) (sym one_character) (omega arith))

abbrev opened_if : Bool → Settings → Host ClientProfile
opened_if test settings =
    let A = client_profile settings in
    let one = ready A (Size (Ok 3) ∷ []) (first_host A) in
    driven A (record one { profile = opens (size_if test (Ok 3)) (name_if test (0x61 ∷ [])) one.profile })

abbrev linked_if : Bool → Settings → Host ClientProfile
linked_if test settings = (client_host settings).hear [] (Linked Up) (opened_if test settings)

pub pushes_begin : PushesBegin
unfolding drives answers answers_within first
pushes_begin = record {
  calls = λ settings. subst (λ (test : Bool). (client_host settings).wants_link (opened_if test settings) ≡ true) (sym short) refl;
  waits = λ settings. subst (λ (test : Bool). said ((client_host settings).next (opened_if test settings)) ≡ None) (sym short) refl;
  asks = λ settings. subst (λ (test : Bool). said ((client_host settings).next (linked_if test settings)) ≡ Some request) (sym short) refl;
  calls_once = λ settings. subst (λ (test : Bool). (client_host settings).wants_link (linked_if test settings) ≡ false) (sym short) refl;
  answers = λ settings content. refl;
}
