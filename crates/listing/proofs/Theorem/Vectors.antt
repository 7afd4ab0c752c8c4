-- From bytes to text, computed: document 01's image of routine H is listed so.
use Rattle.std.specs.Prelude.{◌≡◌, refl}
use Rattle.std.proofs.Common.{ap, ◌∙◌}
use Rattle.imp.specs.Numbers.{signed32}
use Rattle.imp.proofs.Theorem.Table as table
use Rattle.image.specs.Bytes.{number_at}
use Rattle.image.specs.Records.{nodes_from, header, condition_record, node}
use Rattle.image.specs.Tree.{condition_kind, condition_reading, condition, kind_of, reading, read_below, read, routine}
use Rattle.image.proofs.Theorem.RoutineH.{H}
use Rattle.text.specs.Decimal.{digits, decimal, signed_decimal}
use Rattle.written.specs.Word.{bytes}
use Rattle.written.specs.Lister.{listedᶜ, listedᵃ, spaces, line, gap, shortᵃ, short, listedˢ, listed}
use Rattle.listing.specs.Lists.{listing_of}

is_h : routine H ≡ table.H
unfolding table.H routine read reading kind_of node number_at nodes_from header read_below condition signed32 condition_reading condition_kind condition_record
is_h = refl

h_listing : listing_of H ≡ bytes "options 1\n{v0 := [o0 ? 380 : 310] ;\nif (350 < v0) then throw 7 else skip}\n"
unfolding table.H listing_of header number_at digits decimal signed_decimal listedᶜ listedᵃ spaces line gap shortᵃ short listedˢ listed
h_listing = ap (listed 1) is_h ∙ refl
