-- At the end, at a word behind a word, or at a token: one law each.
use Rattle.reading.proofs.Returns.{meet_end, meet_word, meet_token}
use Rattle.reading.proofs.spaces.to_token.Goals as goal

pub returns-then-d-text : goal.returns-then-d-text
returns-then-d-text c = meet_end _ _ _ c.pass_spaces-d.ensures c.if-d-text.true

pub returns-then-d-is_wordy : goal.returns-then-d-is_wordy
returns-then-d-is_wordy c = meet_word _ _ _ c.pass_spaces-d.ensures _ _ c.if-d-text.false c.byte_at.ensures c.is_wordy.ensures c.if-d-is_wordy.true

pub returns : goal.returns
returns c = meet_token _ _ _ c.pass_spaces-d.ensures _ _ c.if-d-text.false c.byte_at.ensures c.is_wordy.ensures c.if-d-is_wordy.false
