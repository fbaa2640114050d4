use Rattle.neli_tables_write.proofs.NamedRows.{request_found}
use Rattle.neli_tables_write.proofs.names.request_named.Goals as goal

pub returns : goal.returns
returns c =
    request_found c.lines.result.now c.args.table.now c.args.name.now c.position_of_request.result
    c.position_of_request.ensures c.lines.ensures
