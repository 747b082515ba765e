-- Laws of the list of order structs: what its places count for, and the orders loaded into it.
mod Sums
mod Loading
