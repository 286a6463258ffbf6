-- `listing::write_output` meets its contract: the order handed over is byte order, so that what is listed or refused is all that is printed.
use Rattle.std.proofs.Common.{refl, arith}
use Rattle.listing.proofs.Printed.{listed, refused_output, listed_output}
use Rattle.text_writers.proofs.Parts.{number_within, refusal_fits}
use Rattle.listing.proofs.write_output.Goals as goal

pub write_refused-requires : goal.write_refused-requires
write_refused-requires c = refusal_fits c.in-Err.refusal c.write_listing.new.text (omega arith)

pub returns-in-Ok : goal.returns-in-Ok
returns-in-Ok c =
    let w = listed c.args.pattern.now _ c.args.text.now c.fill_byte_order.ensures (λ i h. omega (arith, c.type_inv.pattern i)) c.in-Ok.ensures in
    listed_output _ _ w c.requires refl

pub returns-in-Err : goal.returns-in-Err
returns-in-Err c =
    let w = listed c.args.pattern.now _ c.args.text.now c.fill_byte_order.ensures (λ i h. omega (arith, c.type_inv.pattern i)) c.in-Err.ensures in
    refused_output _ _ w c.requires (λ q. omega (arith, number_within c.in-Err.refusal, q)) c.write_refused.ensures
