-- Check words, looking back and in one pass.
use Rattle.std.proofs.Common.{◌≡◌, ℕ, List, [], ◌∷◌, ◌||◌, ◌&&◌, eqb, not, refl, ap, ◌∙◌}
use Rattle.std.specs.List.{list_any}
use Rattle.link_talk.specs.declared.channel.Channel.{Channel}
use Rattle.link_talk.specs.Meanings.{Meaning, meanings}
use Rattle.link_talk.specs.Channels.{Birth, births, words, is_gone, is_there, Entry, Reading, reading}
use Rattle.link_talk.specs.ReadingLaws.{IsRead, AreRead}
use Rattle.link_talk.specs.Waits.{is_checked}
use Rattle.link_talk.proofs.OnePass.{reading-more, reading-is_right}
use Rattle.talk_laws.specs.CheckWords.{asks_for_checks, is_checked_back, CheckWordsLookBack}
use Rattle.talk_laws.proofs.Setups.{setups-look_back}

one_read : (meant : List Meaning) (own : ℕ) (birth : Birth) (entry : Entry) → IsRead meant birth entry → is_checked own entry ≡ is_checked_back meant own birth
one_read meant own birth entry read =
    ap (λ (channel : Channel). (eqb channel.own own && is_there entry.life) && asks_for_checks entry.setup) read.channel_is
    ∙ (ap (λ there. (eqb birth.channel.own own && there) && asks_for_checks entry.setup) read.there_is
    ∙ ap (λ setup. (eqb birth.channel.own own && not (is_gone (words meant birth))) && asks_for_checks setup) (read.setup_is ∙ setups-look_back meant birth))

all_read : (meant : List Meaning) (own : ℕ) (births : List Birth) (entries : List Entry) → AreRead meant births entries → list_any (is_checked own) entries ≡ list_any (is_checked_back meant own) births
all_read meant own [] [] read = refl
all_read meant own [] (entry ∷ entries) read = absurd read
all_read meant own (birth ∷ births) [] read = absurd read
all_read meant own (birth ∷ births) (entry ∷ entries) (first, rest) =
    ap (λ b. b || list_any (is_checked own) entries) (one_read meant own birth entry first)
    ∙ ap (λ b. is_checked_back meant own birth || b) (all_read meant own births entries rest)

pub check-words_look_back : CheckWordsLookBack
check-words_look_back = record {
  back = λ said own. all_read (meanings said) own (births (meanings said)) (reading said).entries (reading-is_right said).entries_are;
  grow = λ said more own. ap (λ (held : Reading). list_any (is_checked own) held.entries) (reading-more said more);
}
