-- Each call in plain numbers: its reply, and what it leaves in the slice that is lent to it. (The shared run has four: Shared.antt.)
use Rattle.std.specs.Prelude.{ℕ, cond, List, ltb, ℤ, length}
use Rattle.image.specs.Bytes.{Bytes, over}
use Rattle.image.specs.Rows.{judge, check_rows, written}
use Rattle.image.specs.Check.{shape_of}
use Rattle.image.specs.Sets.{in_condition, condition_rows}
use Rattle.listing.specs.Lists.{listing_of, list_rows}
use Rattle.configure.specs.Configured.{configured, configure_rows}
use Rattle.plain.specs.PlainRun.{meant_in, meant, progress_of, plain_rows, hall_rows}
use Rattle.calls.specs.declared.reply.Reply.{Reply}
use Rattle.calls.specs.Reply.{values, reply, shape_reply, member_reply, length_reply, progress_reply}

abbrev pub check_reply : Bytes → Reply
check_reply l = reply shape_reply (judge (check_rows l) (shape_of l))

abbrev pub condition_reply : Bytes → ℕ → ℕ → Reply
condition_reply l condition s = reply (member_reply s) (judge (condition_rows l condition) (in_condition l condition))

abbrev pub configure_reply : Bytes → ℕ → Bytes → Reply
configure_reply l setting out = reply length_reply (judge (configure_rows l setting (length out)) (length (configured l setting)))

abbrev pub configure_left : Bytes → ℕ → Bytes → Bytes
configure_left l setting out = written (configure_rows l setting (length out)) (over (configured l setting) out) out

abbrev pub plain_reply : Bytes → ℕ → List ℤ → Reply
plain_reply l budget xs = reply progress_reply (judge (plain_rows l budget (length xs)) (progress_of (meant l budget xs)))

abbrev pub plain_left : Bytes → ℕ → List ℤ → List ℤ
plain_left l budget xs = written (plain_rows l budget (length xs)) (meant l budget xs).numbers xs

abbrev pub hall_reply : Bytes → ℕ → ℕ → List ℤ → Reply
hall_reply l setting budget xs =
    reply progress_reply (judge (hall_rows l setting budget (length xs)) (progress_of (meant_in setting l budget xs)))

abbrev pub hall_left : Bytes → ℕ → ℕ → List ℤ → List ℤ
hall_left l setting budget xs = written (hall_rows l setting budget (length xs)) (meant_in setting l budget xs).numbers xs

abbrev pub list_reply : Bytes → Bytes → Reply
list_reply l out = reply length_reply (judge (list_rows l (length out)) (length (listing_of l)))

abbrev pub list_left : Bytes → Bytes → Bytes
list_left l out = written (list_rows l (length out)) (over (listing_of l) out) out

-- the length of the text, and whether it is longer than the space; and what is left in that
abbrev pub text_reply : Bytes → Bytes → Reply
text_reply text out = values (length text) (cond (ltb (length out) (length text)) 1 0) 0

abbrev pub text_left : Bytes → Bytes → Bytes
text_left text out = cond (ltb (length out) (length text)) out (over text out)
