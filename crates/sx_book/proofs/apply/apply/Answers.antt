use Rattle.sx_call.specs.Calls.{door_of}
use Rattle.sx_book.specs.History.{account_of}
use Rattle.sx_book.proofs.Books.{stepped}
use Rattle.sx_book.proofs.Wholes.{whole_fresh, whole_ids, whole_granted, whole_started, whole_made, whole_few, whole_order, whole_given, whole_session}
use Rattle.sx_book.proofs.apply.apply.Goals as goal

pub serve-requires-clause-fresh : goal.serve-requires-clause-fresh
serve-requires-clause-fresh c =
    let a = account_of c.args.came c.args.state.now in whole_fresh a c.requires.whole

pub serve-requires-clause-ids : goal.serve-requires-clause-ids
serve-requires-clause-ids c =
    let a = account_of c.args.came c.args.state.now in whole_ids a c.requires.whole c.requires.more

pub serve-requires-clause-granted : goal.serve-requires-clause-granted
serve-requires-clause-granted c =
    let a = account_of c.args.came c.args.state.now in whole_granted a c.requires.whole c.requires.more

pub serve-requires-clause-started : goal.serve-requires-clause-started
serve-requires-clause-started c =
    let a = account_of c.args.came c.args.state.now in whole_started a c.requires.whole c.requires.more

pub serve-requires-clause-made : goal.serve-requires-clause-made
serve-requires-clause-made c =
    let a = account_of c.args.came c.args.state.now in whole_made a c.requires.whole c.requires.more

pub serve-requires-clause-few : goal.serve-requires-clause-few
serve-requires-clause-few c =
    let a = account_of c.args.came c.args.state.now in whole_few a c.requires.whole c.requires.more

pub serve-requires-clause-order : goal.serve-requires-clause-order
serve-requires-clause-order c =
    let a = account_of c.args.came c.args.state.now in whole_order a c.requires.whole

pub serve-requires-clause-given : goal.serve-requires-clause-given
serve-requires-clause-given c =
    let a = account_of c.args.came c.args.state.now in whole_given a c.requires.whole c.requires.more

pub serve-requires-clause-session : goal.serve-requires-clause-session
serve-requires-clause-session c =
    let a = account_of c.args.came c.args.state.now in
    whole_session a c.requires.whole c.args.entry.now.who c.args.entry.now.session (door_of c.args.entry.now.call) c.requires.session

pub returns-clause-done : goal.returns-clause-done
returns-clause-done c =
    let a = account_of c.args.came c.args.state.now in
    stepped a c.args.entry.now c.moment.result c.serve.new.state c.serve.result c.moment.ensures c.serve.ensures.ok
