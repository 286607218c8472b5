mod Quiet
mod Order
mod Resolved
mod AsTold
mod Numbers
mod Holding
