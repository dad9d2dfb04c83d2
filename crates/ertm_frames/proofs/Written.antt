-- A frame that was written.
use Rattle.std.proofs.Common.{◌≡◌, ℕ, ◌+◌, ◌/◌, ◌%◌, ◌^◌, ◌<◌, ◌≤◌, List, ◌++◌, length, take, drop, sym, ap, subst, ◌∙◌, arith, append_assoc, length-append}
use Rattle.std.proofs.lemmas.List.{take_at, drop_at, drop-drop}
use Rattle.bt_base.specs.Octets.{le16}
use Rattle.check_words.specs.CheckWords.{low_bits, l2cap_check, L2capCheckHolds}
use Rattle.check_words.proofs.Octets.{word-holds}
use Rattle.ertm_frames.specs.Frames.{PlainFrame, control_of, body_of, covered, IsFrame, Spells}
use Rattle.ertm_frames.proofs.Parts.{number, length-covered}

-- the octets that the check word is over stand at the front of `mid`, and the check word behind them in `new`
module _ (cid end check : ℕ) (frame : PlainFrame) (old mid new : List ℕ)
    (cid_fits : cid < 2 ^ 16) (fits : IsFrame frame) (size : 4 + length (body_of frame) < 2 ^ 16)
    (room : 8 + length (body_of frame) ≤ length old)
    (end_is : end ≡ 6 + length (body_of frame))
    (front : mid ≡ covered cid (control_of frame) (body_of frame) ++ drop end old)
    (small : check < 2 ^ 16)
    (check_is : low_bits 16 check ≡ l2cap_check (take end mid))
    (written : new ≡ take end mid ++ (le16 check ++ drop (end + 2) mid)) where
  part : List ℕ
  part = covered cid (control_of frame) (body_of frame)

  length-part : length part ≡ end
  unfolding part
  length-part = length-covered cid (control_of frame) (body_of frame) ∙ sym end_is

  front_is : take end mid ≡ part
  unfolding part
  front_is = ap (take end) front ∙ take_at part (drop end old) end length-part

  whole_is : new ≡ (part ++ le16 check) ++ drop (end + 2) mid
  whole_is = written ∙ ap (λ (x : List ℕ). x ++ (le16 check ++ drop (end + 2) mid)) front_is ∙ sym (append_assoc part (le16 check) (drop (end + 2) mid))

  length-whole : length (part ++ le16 check) ≡ end + 2
  length-whole = length-append part (le16 check) ∙ ap (λ (k : ℕ). k + 2) length-part

  pdu_is : take (end + 2) new ≡ part ++ le16 check
  pdu_is = ap (take (end + 2)) whole_is ∙ take_at (part ++ le16 check) (drop (end + 2) mid) (end + 2) length-whole

  pub written_rest : drop (end + 2) new ≡ drop (end + 2) old
  unfolding part
  written_rest =
      ap (drop (end + 2)) whole_is ∙ drop_at (part ++ le16 check) (drop (end + 2) mid) (end + 2) length-whole
      ∙ sym (drop-drop 2 end mid)
      ∙ ap (λ (x : List ℕ). drop 2 (drop end x)) front
      ∙ ap (drop 2) (drop_at part (drop end old) end length-part)
      ∙ drop-drop 2 end old

  holds : L2capCheckHolds (part ++ le16 check)
  holds = (word-holds part (check % 256) (check / 256 % 256) check (omega arith) (omega arith) small (check_is ∙ ap l2cap_check front_is)).1 (sym (number check small))

  pub written_spells : Spells cid frame (take (end + 2) new)
  unfolding part
  written_spells = record {
    check = check;
    parts = pdu_is;
    holds = subst L2capCheckHolds (sym pdu_is) holds;
    cid_fits = cid_fits;
    length_fits = size;
    fits = fits;
  }
