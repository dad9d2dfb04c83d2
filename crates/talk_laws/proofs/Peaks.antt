-- The greatest numbers of a capture with one entry more.
use Rattle.std.proofs.Common.{◌≡◌, ℕ, List, [], ◌∷◌, ◌++◌, max, ap, ◌∙◌}
use Rattle.std.proofs.lemmas.List.Sums.{fold-append}
use Rattle.link_talk.specs.capture.specs.Entries.{Entry}
use Rattle.link_talk.specs.capture.specs.Histories.{given_by}
use Rattle.link_talk.specs.capture.specs.Peaks.{greatest}
use Rattle.link_talk.specs.capture.proofs.HistoryLaws.{given_by-more}
use Rattle.link_talk.specs.Captures.{window_held, natural, credits_of}
use Rattle.talk_laws.specs.Peaks.{PeaksGrow}

-- what is so behind an entry
abbrev pub behind : (List Entry → ℕ) → List Entry → Entry → List ℕ
behind of past entry = of (past ++ entry ∷ []) ∷ []

pub peak_more : (of : List Entry → ℕ) (past : List Entry) (more : Entry) → greatest (given_by (behind of) (past ++ more ∷ [])) ≡ max (greatest (given_by (behind of) past)) (of (past ++ more ∷ []))
peak_more of past more = ap greatest (given_by-more (behind of) past more) ∙ fold-append max 0 (given_by (behind of) past) (behind of past more)

pub peaks-grow : PeaksGrow
peaks-grow = record {
  window = λ party side past more. peak_more (window_held party side) past more;
  credits = λ party side past more. peak_more (λ entries. natural (credits_of party side entries)) past more;
}
